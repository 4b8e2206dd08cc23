-- The finite map that a list of entries makes, and what it is after the list has changed.
use Rattle.std.proofs.Common.{◌≡◌, ◌≢◌, ◌+◌, ◌-◌, arith, Bool, true, false, cond, List, [], ◌∷◌, Option, None, Some, IfSome, refl, sym, ap, subst, ◌∙◌}
use Rattle.std.specs.Option.{is_some}
use Rattle.std.specs.Ordering.{eq_by_cmp}
use Rattle.std.specs.Cmp.{eq_by_cmp_equiv}
use Rattle.std.specs.Map.{lookup}
use Rattle.std.specs.BTreeMap.{is_at}
use Rattle.std.specs.FinMap.{FinMap, find, get, insert, remove, len, empty, from_entries, empty_of_len, len-remove, get-from_entries, get-insert, get-remove, get-empty, same_map}
use Rattle.std.proofs.lemmas.Option.{none-some}
use Rattle.std.proofs.lemmas.Map.Views.{tells_apart}
use Rattle.hub_depot.specs.declared.kept_map.Key.{Key}
use Rattle.hub_depot.specs.Key.{key_cmp}
use Rattle.hub_depot.specs.Named.{EachUnderItsName}
use Rattle.hub_depot.proofs.Keys.{exact_keys, keys_total}

module _ {V : Type 0} where
  find-key : (es : List (Key × V)) (q : Key) → find key_cmp q es ≡ lookup (is_at (key_cmp q)) es
  find-key [] q = refl
  find-key (e ∷ es) q = ap (cond (is_at (key_cmp q) e.0) (Some e.1)) (find-key es q)

  -- what the map that the entries make has at a name
  pub get-key : (es : List (Key × V)) (q : Key) → get (from_entries {R = key_cmp} es) q ≡ lookup (is_at (key_cmp q)) es
  get-key es q = get-from_entries keys_total es q ∙ find-key es q

  -- the same, where the map and the name are known by other terms too
  pub get-seen : (es : List (Key × V)) (m : FinMap key_cmp V) (k n : Key) → from_entries es ≡ m → k ≡ n → get m n ≡ lookup (is_at (key_cmp k)) es
  get-seen es m k n seen same = ap (λ m'. get m' n) (sym seen) ∙ ap (get (from_entries es)) (sym same) ∙ get-key es k

  -- entries that have one more value
  pub from_entries_inserted : (es fs : List (Key × V)) (m : FinMap key_cmp V) (k n : Key) (v : V) → from_entries es ≡ m → k ≡ n
      → ((q : Key) → lookup (is_at (key_cmp q)) fs ≡ cond (is_at (key_cmp k) q) (Some v) (lookup (is_at (key_cmp q)) es)) → from_entries fs ≡ insert m n v
  from_entries_inserted es fs m k n v seen same h =
      same_map keys_total exact_keys (from_entries fs) (insert (from_entries es) k v) (λ q.
      get-key fs q ∙ h q ∙ ap (λ b. cond b (Some v) (lookup (is_at (key_cmp q)) es)) ((eq_by_cmp_equiv keys_total).symm k q)
      ∙ sym (get-insert keys_total (from_entries es) k v q ∙ ap (cond (eq_by_cmp key_cmp q k) (Some v)) (get-key es q)))
      ∙ ap (λ m'. insert m' k v) seen ∙ ap (λ k'. insert m k' v) same

  -- entries that have no value of that name any more
  pub from_entries_removed : (es fs : List (Key × V)) (m : FinMap key_cmp V) (k n : Key) → from_entries es ≡ m → k ≡ n
      → ((q : Key) → lookup (is_at (key_cmp q)) fs ≡ cond (is_at (key_cmp k) q) None (lookup (is_at (key_cmp q)) es)) → from_entries fs ≡ remove m n
  from_entries_removed es fs m k n seen same h =
      same_map keys_total exact_keys (from_entries fs) (remove (from_entries es) k) (λ q.
      get-key fs q ∙ h q ∙ ap (λ b. cond b None (lookup (is_at (key_cmp q)) es)) ((eq_by_cmp_equiv keys_total).symm k q)
      ∙ sym (get-remove keys_total (from_entries es) k q ∙ ap (cond (eq_by_cmp key_cmp q k) None) (get-key es q)))
      ∙ ap (λ m'. remove m' k) seen ∙ ap (remove m) same

  -- a map that has a value is not empty
  pub some_kept : (m : FinMap key_cmp V) (k : Key) (v : V) → get m k ≡ Some v → m ≢ empty
  some_kept m k v kept nothing = none-some v (sym (get-empty key_cmp k) ∙ ap (λ m'. get m' k) (sym nothing) ∙ kept)

  -- only no entries make the empty map
  pub empty_from_entries : (es : List (Key × V)) → from_entries {R = key_cmp} es ≡ empty → es ≡ []
  empty_from_entries [] h = refl
  empty_from_entries (e ∷ es) h =
      let first : get (insert (from_entries {R = key_cmp} es) e.0 e.1) e.0 ≡ Some e.1 =
      get-insert keys_total (from_entries es) e.0 e.1 e.0 ∙ ap (λ b. cond b (Some e.1) (get (from_entries {R = key_cmp} es) e.0)) ((eq_by_cmp_equiv keys_total).refl e.0) in
      absurd (some_kept _ e.0 e.1 first h)

  -- a map from which a value was taken has one less
  pub len-removed : (m : FinMap key_cmp V) (k : Key) (v : V) → get m k ≡ Some v → len (remove m k) + 1 ≡ len m
  len-removed m k v kept =
      let some : len m ≢ 0 = λ none. some_kept m k v kept (empty_of_len m none) in
      let less : len (remove m k) ≡ len m - 1 = len-remove keys_total m k ∙ ap (λ o. cond (is_some o) (len m - 1) (len m)) kept in
      omega arith

  module _ (name : V → Key) where
    named_or : (b : Bool) (o : Option V) (v : V) (q : Key) → (b ≡ true → name v ≡ q) → IfSome o (λ w. name w ≡ q) → IfSome (cond b (Some v) o) (λ w. name w ≡ q)
    named_or true o v q here there = here refl
    named_or false o v q here there = there

    named_unless : (b : Bool) (o : Option V) (q : Key) → IfSome o (λ w. name w ≡ q) → IfSome (cond b None o) (λ w. name w ≡ q)
    named_unless true o q there = tt
    named_unless false o q there = there

    -- the empty map has each value under its name
    pub named_empty : EachUnderItsName name empty
    named_empty q = subst (λ o. IfSome o (λ w. name w ≡ q)) (sym (get-empty key_cmp q)) tt

    -- and so has a map to which a value was added under its name
    pub named_insert : (m : FinMap key_cmp V) (v : V) → EachUnderItsName name m → EachUnderItsName name (insert m (name v) v)
    named_insert m v named q = subst (λ o. IfSome o (λ w. name w ≡ q)) (sym (get-insert keys_total m (name v) v q))
        (named_or (eq_by_cmp key_cmp q (name v)) (get m q) v q (λ e. sym (tells_apart exact_keys q (name v) e)) (named q))

    -- and one from which a name was taken
    pub named_remove : (m : FinMap key_cmp V) (k : Key) → EachUnderItsName name m → EachUnderItsName name (remove m k)
    named_remove m k named q = subst (λ o. IfSome o (λ w. name w ≡ q)) (sym (get-remove keys_total m k q)) (named_unless (eq_by_cmp key_cmp q k) (get m q) q (named q))

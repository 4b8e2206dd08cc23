-- The finite map after many values were put, and after they were taken back.
use Rattle.std.proofs.Common.{◌≡◌, ◌≢◌, Bool, true, false, true≢false, cond, List, [], ◌∷◌, ◌++◌, Option, None, Some, Err, IfSome, length, length-append, refl, sym, ap, subst, ◌∙◌, arith}
use Rattle.std.specs.Prelude.{All, AllPairs, IsSome, IsNone, IsErrOf, slice_get}
use Rattle.std.specs.Option.{option_map}
use Rattle.std.specs.Ordering.{eq_by_cmp}
use Rattle.std.specs.Cmp.{eq_by_cmp_equiv}
use Rattle.std.specs.FinMap.{FinMap, get, insert, remove, get-insert, get-remove, same_map}
use Rattle.std.proofs.Math.Seq.{take-append_seam}
use Rattle.std.proofs.lemmas.List.Elements.{All-nil, All-cons, All-push}
use Rattle.std.proofs.lemmas.List.Quantifiers.{all_pairs_push}
use Rattle.std.proofs.lemmas.Map.Views.{tells_apart}
use Rattle.hub_depot.specs.declared.kept_map.Key.{Key}
use Rattle.hub_depot.specs.declared.kept_map.DepotError.{DepotError}
use Rattle.hub_depot.specs.declared.kept_map.DepotError.TheVariants.{Taken}
use Rattle.hub_depot.specs.DepotError.{refused_value}
use Rattle.hub_depot.specs.Key.{key_cmp}
use Rattle.hub_depot.specs.Putting.{with_all, without_all, IsTakenAmong}
use Rattle.hub_depot.proofs.Keys.{exact_keys, keys_total}

module _ {V : Type 0} where
  nothing : (o : Option V) → IsNone o → o ≡ None
  nothing None h = refl
  nothing (Some v) h = absurd (true≢false h)

  put_and_taken : (m : FinMap key_cmp V) (k : Key) (v : V) (q : Key) → get m k ≡ None → (b : Bool) → eq_by_cmp key_cmp q k ≡ b → cond b None (cond b (Some v) (get m q)) ≡ get m q
  put_and_taken m k v q free true same = sym free ∙ sym (ap (get m) (tells_apart exact_keys q k same))
  put_and_taken m k v q free false other = refl

  -- a map from which what was just put is taken back is as it was
  pub remove-insert : (m : FinMap key_cmp V) (k : Key) (v : V) → IsNone (get m k) → remove (insert m k v) k ≡ m
  remove-insert m k v free = same_map keys_total exact_keys _ _ (λ q.
      get-remove keys_total (insert m k v) k q ∙ ap (cond (eq_by_cmp key_cmp q k) None) (get-insert keys_total m k v q)
      ∙ put_and_taken m k v q (nothing (get m k) free) (eq_by_cmp key_cmp q k) refl)

  -- the last name is taken out first
  without_all-push : (m : FinMap key_cmp V) (ks : List Key) (k : Key) → without_all m (ks ++ k ∷ []) ≡ without_all (remove m k) ks
  without_all-push m [] k = refl
  without_all-push m (x ∷ xs) k = ap (λ n. remove n x) (without_all-push m xs k)

  without_last : (o : Option (FinMap key_cmp V)) (ks : List Key) (k : Key) → option_map (λ m. without_all m ks) (option_map (λ m. remove m k) o) ≡ option_map (λ m. without_all m (ks ++ k ∷ [])) o
  without_last None ks k = refl
  without_last (Some m) ks k = ap Some (sym (without_all-push m ks k))

  -- once the last name is taken out, the others are left to take
  pub taken_back : (before after : Option (FinMap key_cmp V)) (names ks : List Key) (k : Key) → after ≡ option_map (λ m. remove m k) before → names ≡ ks ++ k ∷ []
      → option_map (λ m. without_all m ks) after ≡ option_map (λ m. without_all m names) before
  taken_back before after names ks k is last =
      ap (option_map (λ m. without_all m ks)) is ∙ without_last before ks k ∙ ap (λ ns. option_map (λ m. without_all m ns) before) (sym last)

module _ {V : Type 0} (name : V → Key) where
  with_all-push : (m : FinMap key_cmp V) (vs : List V) (v : V) → with_all name m (vs ++ v ∷ []) ≡ insert (with_all name m vs) (name v) v
  with_all-push m [] v = refl
  with_all-push m (x ∷ xs) v = with_all-push (insert m (name x) x) xs v

  not_put : (m : FinMap key_cmp V) (k : Key) (x : V) (b : Bool) → eq_by_cmp key_cmp k (name x) ≡ b → IsNone (cond b (Some x) (get m k)) → IsNone (get m k) × (name x ≢ k)
  not_put m k x true same none = absurd (true≢false none)
  not_put m k x false other none = (none, λ same. true≢false (sym (subst (λ q. eq_by_cmp key_cmp k q ≡ true) (sym same) ((eq_by_cmp_equiv keys_total).refl k)) ∙ other))

  -- a name that the map with the values lacks was lacking before, and is the name of none of them
  unused_name : (m : FinMap key_cmp V) (vs : List V) (k : Key) → IsNone (get (with_all name m vs) k) → IsNone (get m k) × All (λ v. name v ≢ k) vs
  unused_name m [] k none = (none, All-nil _)
  unused_name m (x ∷ xs) k none =
      let rest = unused_name (insert m (name x) x) xs k none in
      let here = not_put m k x (eq_by_cmp key_cmp k (name x)) refl (subst IsNone (get-insert keys_total m (name x) x k) rest.0) in
      (here.0, All-cons (λ v. name v ≢ k) x xs here.1 rest.1)

  -- what a shelf shows after it took the values, and what is known of their names
  pub record IsPut (before now : Option (FinMap key_cmp V)) (vs : List V) (names : List Key) : Type 0 where
    pub shown : now ≡ option_map (λ m. with_all name m vs) before
    pub back : option_map (λ m. without_all m names) now ≡ before
    pub free : IfSome before (λ m. All (λ v. IsNone (get m (name v))) vs)
    pub distinct : IsSome before → AllPairs (λ v w. name v ≢ name w) vs

  pub none_put : (before : Option (FinMap key_cmp V)) → IsPut before before [] []
  none_put None = record { shown = refl; back = refl; free = tt; distinct = λ some. absurd (true≢false (sym some)) }
  none_put (Some m) = record { shown = refl; back = refl; free = All-nil _; distinct = λ some i j d less within. absurd (omega arith) }

  one_more_put : (m now : FinMap key_cmp V) (vs : List V) (names : List Key) (v : V) → now ≡ with_all name m vs → without_all now names ≡ m
      → All (λ w. IsNone (get m (name w))) vs → AllPairs (λ w x. name w ≢ name x) vs → IsNone (get now (name v))
      → IsPut (Some m) (Some (insert now (name v) v)) (vs ++ v ∷ []) (names ++ name v ∷ [])
  one_more_put m now vs names v is back free distinct none =
      let unused = unused_name m vs (name v) (subst (λ n. IsNone (get n (name v))) is none) in
      record {
        shown = ap Some (ap (λ n. insert n (name v) v) is ∙ sym (with_all-push m vs v));
        back = ap Some (without_all-push (insert now (name v) v) names (name v) ∙ ap (λ n. without_all n names) (remove-insert now (name v) v none) ∙ back);
        free = All-push (λ w. IsNone (get m (name w))) vs v free unused.0;
        distinct = λ some. all_pairs_push (λ w x. name w ≢ name x) vs v distinct unused.1;
      }

  put_more : (before mid : Option (FinMap key_cmp V)) (vs : List V) (names : List Key) (v : V) → IsPut before mid vs names → IfSome mid (λ m. IsNone (get m (name v)))
      → IsPut before (option_map (λ m. insert m (name v) v) mid) (vs ++ v ∷ []) (names ++ name v ∷ [])
  put_more None None vs names v put free = record { shown = refl; back = refl; free = tt; distinct = λ some. absurd (true≢false (sym some)) }
  put_more None (Some mid) vs names v put free = let wrong = put.shown in cc
  put_more (Some m) None vs names v put free = let wrong = put.shown in cc
  put_more (Some m) (Some mid) vs names v put free =
      let is : mid ≡ with_all name m vs = cc (put.shown) in
      let back : without_all mid names ≡ m = cc (put.back) in
      one_more_put m mid vs names v is back put.free (put.distinct refl) free

  -- one more value was put, and its name was kept beside
  pub put_and_push_key : (before mid now : Option (FinMap key_cmp V)) (vs : List V) (names names' : List Key) (v : V) → IsPut before mid vs names → names' ≡ names ++ name v ∷ []
      → now ≡ option_map (λ m. insert m (name v) v) mid → IfSome mid (λ m. IsNone (get m (name v))) → IsPut before now (vs ++ v ∷ []) names'
  put_and_push_key before mid now vs names names' v put named is free =
      subst (λ ns. IsPut before now (vs ++ v ∷ []) ns) (sym named)
      (subst (λ n. IsPut before n (vs ++ v ∷ []) (names ++ name v ∷ [])) (sym is) (put_more before mid vs names v put free))

  at_seam : (vs rest : List V) (v : V) → slice_get (vs ++ v ∷ rest) (length vs) ≡ Some v
  at_seam [] rest v = refl
  at_seam (x ∷ xs) rest v = at_seam xs rest v

  among : (m mid : FinMap key_cmp V) (vs rest : List V) (v : V) → mid ≡ with_all name m vs → IsSome (get mid (name v)) → IsTakenAmong name m (vs ++ v ∷ rest) v
  among m mid vs rest v is some = (
    length vs,
    simp length-append (omega arith),
    (at_seam vs rest v, subst (λ ws. IsSome (get (with_all name m ws) (name v))) (sym (take-append_seam vs (v ∷ rest))) (subst (λ n. IsSome (get n (name v))) is some)),
  )

  where_refused : {A : Type 0} (o : Option A) (F : Type 0) (P : A → Type 0) → F → IfSome o (λ a. F → P a) → IfSome o P
  where_refused None F P f h = tt
  where_refused (Some a) F P f h = h f

  -- the value after those that were put was refused, since its name was there
  next_taken : (before mid : Option (FinMap key_cmp V)) (vs rest : List V) (names : List Key) (v : V) → IsPut before mid vs names → IfSome mid (λ m. IsSome (get m (name v)))
      → IfSome before (λ m. IsTakenAmong name m (vs ++ v ∷ rest) v)
  next_taken None mid vs rest names v put some = tt
  next_taken (Some m) None vs rest names v put some = let wrong = put.shown in cc
  next_taken (Some m) (Some mid) vs rest names v put some = among m mid vs rest v (let shown = put.shown in cc) some

  pub taken_next : (before mid : Option (FinMap key_cmp V)) (values vs rest : List V) (names : List Key) (v w : V) (e : DepotError V) → IsPut before mid vs names → values ≡ vs ++ v ∷ rest
      → refused_value e ≡ v → IfSome mid (λ m. IsErrOf {T = Unit {0}} (Err e) (Taken v) → IsSome (get m (name v))) → IsErrOf {T = Unit {0}} (Err e) (Taken w) → IfSome before (λ m. IsTakenAmong name m values w)
  taken_next before mid values vs rest names v w e put split back told refused =
      let is : e ≡ Taken w = cc in
      let same : w ≡ v = sym (ap refused_value is) ∙ back in
      let here : e ≡ Taken v = is ∙ ap Taken same in
      subst (λ x. IfSome before (λ m. IsTakenAmong name m values x)) (sym same)
      (subst (λ xs. IfSome before (λ m. IsTakenAmong name m xs v)) (sym split)
      (next_taken before mid vs rest names v put (where_refused mid _ (λ m. IsSome (get m (name v))) (ap Err here) told)))

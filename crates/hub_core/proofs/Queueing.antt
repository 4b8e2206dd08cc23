-- The laws of the queue machine.
use Rattle.std.proofs.Common.{◌≡◌, ℕ, suc, ◌≤◌, Bool, true, false, List, [], ◌∷◌, length, map, refl, sym, ap, ◌∙◌, subst, arith, Some, None, cond, eqb, ◌++◌, rules, append_assoc, append-nil, length-append, ne_eqb}
use Rattle.hub_core.proofs.Words.{All, eqb-true, map-append, filter-append, All-nil, All-head, All-tail, All-push, All-same, Envelope, by, up_to, Queue, new_queue, IsNamed, MayPush, pushed, pop_of, popped, IsQueue, QueueLaws}
use Rattle.hub_core.proofs.Nexts.{all_where}

-- one envelope more of its line, and none of another
put_one : (line : ℕ) (vs ps : List Envelope) (v : Envelope) → by line vs ≡ ps → by line (vs ++ v ∷ []) ≡ cond (eqb v.line.0 line) (ps ++ v ∷ []) ps
put_one line vs ps v h = filter-append _ vs (v ∷ []) ∙ ap (λ us. us ++ cond (eqb v.line.0 line) (v ∷ []) []) h ∙ all_where (eqb v.line.0 line) ps (v ∷ [])

-- the envelopes are numbered 0, 1, 2 and so on
abbrev AreNumbered : List Envelope → Type 0
AreNumbered vs = map (λ v. v.number) vs ≡ up_to (length vs)

numbered_more : (vs : List Envelope) (v : Envelope) → AreNumbered vs → v.number ≡ length vs → AreNumbered (vs ++ v ∷ [])
numbered_more vs v old next =
    let longer : suc (length vs) ≡ length (vs ++ v ∷ []) = simp length-append (omega arith) in
    map-append (λ (u : Envelope). u.number) vs (v ∷ []) ∙ ap (λ ns. ns ++ v.number ∷ []) old ∙ ap (λ n. up_to (length vs) ++ n ∷ []) next ∙ ap up_to longer

numbered_line : (line : ℕ) (vs : List Envelope) (v : Envelope) (b : Bool) → AreNumbered vs → (b ≡ true → v.number ≡ length vs) → AreNumbered (cond b (vs ++ v ∷ []) vs)
numbered_line line vs v true old next = numbered_more vs v old (next refl)
numbered_line line vs v false old next = old

module _ (e k n : ℕ) where
  pub at_first_queue : IsQueue e k n new_queue
  at_first_queue = record { put = λ line. refl; named = All-nil (IsNamed e k n); numbered = λ line. refl }

  pub after_push : (q : Queue) (v : Envelope) → MayPush e k n q v → IsQueue e k n q → IsQueue e k n (pushed q v)
  after_push q v may h =
      let joined : q.got ++ (q.held ++ v ∷ []) ≡ (q.got ++ q.held) ++ v ∷ [] = sym (append_assoc q.got q.held (v ∷ [])) in record {
        put = λ line. ap (by line) joined ∙ put_one line (q.got ++ q.held) (q.put line) v (h.put line);
        named = All-same (IsNamed e k n) _ _ joined (All-push (IsNamed e k n) (q.got ++ q.held) v h.named may.named);
        numbered = λ line. numbered_line line (q.put line) v (eqb v.line.0 line) (h.numbered line) (λ mine. may.number ∙ ap (λ l. length (q.put l)) (eqb-true v.line.0 line mine));
      }

  -- what a pop makes of a queue that holds these
  pop_cases : (q r : Queue) (v : Envelope) (held : List Envelope) → q.held ≡ held → pop_of q held ≡ Some (v, r) → IsQueue e k n q → IsQueue e k n r
  pop_cases q r v [] is p h = absurd (search (rules, p))
  pop_cases q r v (u ∷ rest) is p h =
      let after : Queue = record { put = q.put; held = rest; got = q.got ++ u ∷ [] } in
      let found : Envelope × Queue = (u, after) in
      let given : Envelope × Queue = (v, r) in
      let both : found ≡ given = cc in
      let same : after ≡ r = ap (λ (w : Envelope × Queue). w.1) both in
      let joined : (q.got ++ u ∷ []) ++ rest ≡ q.got ++ q.held = append_assoc q.got (u ∷ []) rest ∙ ap (λ us. q.got ++ us) (sym is) in
      subst (IsQueue e k n) same (record {
        put = λ line. ap (by line) joined ∙ h.put line;
        named = All-same (IsNamed e k n) _ _ joined h.named;
        numbered = h.numbered;
      })

  pub after_pop : (q r : Queue) (v : Envelope) → popped q ≡ Some (v, r) → IsQueue e k n q → IsQueue e k n r
  after_pop q r v is h = pop_cases q r v q.held refl is h

  -- what was taken and what is held, of a line
  parts : (q : Queue) → IsQueue e k n q → (line : ℕ) → q.put line ≡ by line q.got ++ by line q.held
  parts q h line = sym (h.put line) ∙ filter-append _ q.got q.held

  -- none of the envelopes is of a number that is no line
  by_none : (vs : List Envelope) (line : ℕ) → All (IsNamed e k n) vs → n ≤ line → by line vs ≡ []
  by_none [] line named past = refl
  by_none (v ∷ vs) line named past =
      let first : IsNamed e k n v = All-head (IsNamed e k n) v vs named in
      let other : eqb v.line.0 line ≡ false = ne_eqb v.line.0 line (λ same. let low = first.line in omega arith) in
      ap (λ b. cond b (v ∷ by line vs) (by line vs)) other ∙ by_none vs line (All-tail (IsNamed e k n) v vs named) past

-- a queue that holds nothing gives none, and no other
pub none_held : (q : Queue) → popped q ≡ None → q.held ≡ []
none_held q is = none_cases q q.held refl is
  where
    none_cases : (q : Queue) (held : List Envelope) → q.held ≡ held → pop_of q held ≡ None → q.held ≡ []
    none_cases q [] same p = same
    none_cases q (u ∷ rest) same p = absurd (search (rules, p))

pub prove_queue_laws : QueueLaws
prove_queue_laws = record {
  opened = at_first_queue;
  push = after_push;
  pop = after_pop;
  none = λ e k n q p h line. ap (by line) (sym (append-nil q.got) ∙ ap (λ us. q.got ++ us) (sym (none_held q p))) ∙ h.put line;
  prefix = λ e k n q h line. (by line q.held, parts e k n q h line);
  unused = λ e k n q h line past. sym (h.put line) ∙ by_none e k n (q.got ++ q.held) line h.named past;
}

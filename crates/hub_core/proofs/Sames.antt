-- Legal histories, one pair more, and those that can't be told apart.
use Rattle.std.proofs.Common.{◌≡◌, List, [], ◌∷◌, ◌++◌, length, refl, sym, ap, subst, arith, append_assoc, append-nil, ℕ, Bool, true, false, cond, eqb, ◌∙◌, inl, inr, None, rules, ◌&&◌, ◌⊎◌, Option, Some, drop}
use Rattle.hub_core.proofs.Words.{zip, Pair, History, Fits, LegalAfter, Legal, Phase, Out, Turned, Sender, Action, Outcome, Facts, facts, Answers, Same, phase_of_line, CastNow, cast_to, cast_after, roster, changes_nothing, done_with, source_for, answered, is_first}
use Rattle.hub_core.specs.declared.step.Action.TheVariants as action
use Rattle.hub_core.specs.declared.step.Outcome.TheVariants as outcome
use Rattle.hub_core.proofs.Nexts.{next, nothing_changes, facts_next, entered_of}
use Rattle.hub_core.proofs.SoundLines.{on_place}
use Rattle.hub_core.proofs.Items.{is_out_of}

-- ==== Legal histories, one pair more.

pub legal_after_one : (past h : History) (p : Pair) → LegalAfter past h → Fits (past ++ h) p → LegalAfter past (h ++ p ∷ [])
legal_after_one past [] p l f = (subst (λ k. Fits k p) (append-nil past) f, tt)
legal_after_one past (q ∷ h) p l f = (l.0, legal_after_one (past ++ q ∷ []) h p l.1 (subst (λ k. Fits k p) (sym (append_assoc past (q ∷ []) h)) f))

pub zip_one : {A B : Type 0} (xs : List A) (ys : List B) (x : A) (y : B) → length ys ≡ length xs → zip (xs ++ x ∷ []) (ys ++ y ∷ []) ≡ zip xs ys ++ (x, y) ∷ []
zip_one [] [] x y h = refl
zip_one (a ∷ xs) (b ∷ ys) x y h = ap (λ zs. (a, b) ∷ zs) (zip_one xs ys x y (omega (arith, h)))
zip_one _ _ x y h = absurd (omega (arith, h))

-- what holds at first, and after each pair that fits, holds of every legal history
pub by_pairs : (P : History → Type 0) → ((h : History) (p : Pair) → P h → Fits h p → P (h ++ p ∷ [])) → (past h : History) → P past → LegalAfter past h → P (past ++ h)
by_pairs P one past [] start l = subst P (sym (append-nil past)) start
by_pairs P one past (p ∷ h) start l = subst P (append_assoc past (p ∷ []) h) (by_pairs P one (past ++ p ∷ []) h (one past p start l.0) l.1)

-- a list of pairs, cut in two
pub legal_apart : (past h g : History) → LegalAfter past (h ++ g) → LegalAfter past h × LegalAfter (past ++ h) g
legal_apart past [] g l = (tt, subst (λ k. LegalAfter k g) (sym (append-nil past)) l)
legal_apart past (p ∷ h) g l =
    let rest = legal_apart (past ++ p ∷ []) h g l.1 in
    ((l.0, rest.0), subst (λ k. LegalAfter k g) (append_assoc past (p ∷ []) h) rest.1)

pub legal_joined : (past h g : History) → LegalAfter past h → LegalAfter (past ++ h) g → LegalAfter past (h ++ g)
legal_joined past [] g l k = subst (λ m. LegalAfter m g) (append-nil past) k
legal_joined past (p ∷ h) g l k = (l.0, legal_joined (past ++ p ∷ []) h g l.1 (subst (λ m. LegalAfter m g) (sym (append_assoc past (p ∷ []) h)) k))

-- a pair of a legal history fits those before it
pub legal_at : (h before after : History) (p : Pair) → Legal h → h ≡ before ++ p ∷ after → Legal before × Fits before p × LegalAfter (before ++ p ∷ []) after
legal_at h before after p l is =
    let both = legal_apart [] before (p ∷ after) (subst Legal is l) in
    (both.0, both.1.0, both.1.1)

-- ==== Histories that can't be told apart.

legal_same : (h k more : History) → facts h ≡ facts k → LegalAfter h more → LegalAfter k more
legal_same h k [] same l = tt
legal_same h k (p ∷ more) same l = (
  subst (λ f. Answers f p.0.action p.0.memory_refused p.1) same l.0,
  legal_same (h ++ p ∷ []) (k ++ p ∷ []) more (facts_next h p ∙ ap (λ f. next f p.0.action p.1) same ∙ sym (facts_next k p)) l.1,
)

-- histories of the same facts are the same
pub same_facts : (h k : History) → facts h ≡ facts k → Same h k
same_facts h k same more = (legal_same h k more same, legal_same k h more (sym same))

pub nothing_next : (f : Facts) (o : Outcome) (a : Action) → changes_nothing o a ≡ true → next f a o ≡ f
nothing_next f o a h = (nothing_changes o a h).0 f

-- a pair that changes nothing leaves the same
pub nothing_same : (h : History) (p : Pair) → changes_nothing p.1 p.0.action ≡ true → Same (h ++ p ∷ []) h
nothing_same h p n = same_facts (h ++ p ∷ []) h (facts_next h p ∙ nothing_next (facts h) p.1 p.0.action n)

-- ---- turned back

-- the phase of a line that was turned back and is out again
line_again : (s : Sender) (p q : Phase) (x l : ℕ) → (b : Bool) → (b ≡ true → q ≡ Out) → cond b Out (cond b p q) ≡ q
line_again s p q x l true h = sym (h refl)
line_again s p q x l false h = refl

line_was_out : (f : Facts) (s : Sender) (x l : ℕ) → phase_of_line f s ≡ Out → (eqb x s.end.0 && eqb l s.line.0) ≡ true → (f.line x l).phase ≡ Out
line_was_out f s x l out h = on_place (λ y k. (f.line y k).phase ≡ Out) s x l h out

-- the facts after a turned poster has left: a cast that goes there next is done with the end
turned_facts : (f : Facts) (s : Sender) (o : Outcome) → (o ≡ outcome.Closed) ⊎ (o ≡ outcome.Moved) → phase_of_line f s ≡ Out → next (next f (action.Enter s) o) (action.Leave s) outcome.Left ≡ done_with s.end.0 f
turned_facts f s o (inl is) out = rw is (λ i. record f {
  line = λ x l. record (f.line x l) { phase = line_again s Turned (f.line x l).phase x l (eqb x s.end.0 && eqb l s.line.0) (line_was_out f s x l out) i };
  roster = record f.roster { cast = cast_after s.end.0 f.roster.cast };
})
turned_facts f s o (inr is) out = rw is (λ i. record f {
  line = λ x l. record (f.line x l) { phase = line_again s Turned (f.line x l).phase x l (eqb x s.end.0 && eqb l s.line.0) (line_was_out f s x l out) i };
  roster = record f.roster { cast = cast_after s.end.0 f.roster.cast };
})

cast_stays : (x : ℕ) (c : Option CastNow) → source_for c x ≡ None → cast_after x c ≡ c
cast_stays x None h = refl
cast_stays x (Some c) h = elim (is_first x c.left) as (λ b. cond b (Some c.source) None ≡ None → cond b (cast_to c.source c.body (drop 1 c.left)) (Some c) ≡ Some c) [
  | true ↦ λ some. absurd (search (rules, some))
  | false ↦ λ _. refl
] h

-- an Enter that was turned back found its line out
not_refused : (o : Outcome) → (o ≡ outcome.Closed) ⊎ (o ≡ outcome.Moved) → o ≡ outcome.NotNow → ⊥
not_refused o (inl is) h = cc
not_refused o (inr is) h = cc

-- an Enter that was turned back, and its Leave
abbrev pub turned_pairs : Sender → Bool → Bool → Outcome → History
turned_pairs s r q o = answered (action.Enter s) r o ∷ answered (action.Leave s) q outcome.Left ∷ []

-- a poster that was turned back and has left leaves the facts but for the destination
pub turned_leaves : (h : History) (s : Sender) (r q : Bool) (o : Outcome) → (o ≡ outcome.Closed) ⊎ (o ≡ outcome.Moved) → Fits h (answered (action.Enter s) r o) → facts (h ++ turned_pairs s r q o) ≡ done_with s.end.0 (facts h)
turned_leaves h s r q o turned fits =
    let a : Pair = answered (action.Enter s) r o in
    let b : Pair = answered (action.Leave s) q outcome.Left in
    let f : Facts = facts h in
    let out : phase_of_line f s ≡ Out = is_out_of (phase_of_line f s) (entered_of f s fits (not_refused o turned)).0.out in
    ap facts (sym (append_assoc h (a ∷ []) (b ∷ []))) ∙ facts_next (h ++ a ∷ []) b ∙ ap (λ g. next g (action.Leave s) outcome.Left) (facts_next h a) ∙ turned_facts f s o turned out

-- where no cast goes there next it leaves the same
pub turned_same : (h : History) (s : Sender) (r q : Bool) (o : Outcome) → (o ≡ outcome.Closed) ⊎ (o ≡ outcome.Moved) → source_for (roster h).cast s.end.0 ≡ None → Fits h (answered (action.Enter s) r o) → Same (h ++ turned_pairs s r q o) h
turned_same h s r q o turned nowhere fits =
    same_facts (h ++ turned_pairs s r q o) h
    (turned_leaves h s r q o turned fits ∙ ap (λ c. let g : Facts = record (facts h) { roster = record (facts h).roster { cast = c } } in g) (cast_stays s.end.0 (roster h).cast nowhere))

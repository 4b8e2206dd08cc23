-- The pass of a line is handed on, to the taker's pass and back, and the rule of the queue holds.
use Rattle.std.proofs.Common.{◌≡◌, ◌≢◌, ℕ, ◌<◌, ◌≤◌, Bool, cond, eqb, List, [], ◌∷◌, ◌++◌, length, set, refl, sym, ap, ◌∙◌, subst, ⊎_elim, arith, Some, None, eq-eqb}
use Rattle.std.proofs.lemmas.Bool.{ne_eqb}
use Rattle.std.proofs.lemmas.List.Elements.{filter-append}
use mathlib.Core.Option.{some}
use lib.ListN.{get_elem?}
use Rattle.crossbeam_queue.specs.Fifo.{Forks, Merges, Held}
use Rattle.crossbeam_queue.proofs.Lists.{at_set}
use Rattle.hub_envelope.specs.declared.envelope.Envelope.{Envelope}
use Rattle.hub_core.specs.Sender.{by, Prefix}
use Rattle.hub_core.proofs.Items.{some_is, none_got}
use Rattle.hub_queue.specs.declared.store.PutView.{PutView}
use Rattle.hub_queue.specs.declared.store.TakeView.{TakeView}
use Rattle.hub_queue.specs.declared.store.PassView.{PassView}
use Rattle.hub_queue.specs.declared.store.PassView.TheVariants.{Takes, Puts, Both, Spent}
use Rattle.hub_queue.specs.SharedQueue.{SharedQueue, IsPutter, IsTaker, KnowsQueue, ShowsQueue}
use Rattle.hub_queue.specs.PassSteps.{lent, lent_left, joined_pass, taker_again, line_again, Learnt}
use Rattle.hub_queue.proofs.Rule.{Spares, taken_stays, stays, know_set, know_snoc}

-- a line gets another pass
module _ (q : SharedQueue) (line owner new : ℕ) (stands : q.pass_of line ≡ Some owner) where
  abbrev pub given : SharedQueue
  given = record { end = q.end; epoch = q.epoch; lines = q.lines; state = q.state; taker = q.taker; pass_of = λ l. cond (eqb l line) (Some new) (q.pass_of l) }

  given_else : (l : ℕ) → l ≢ line → given.pass_of l ≡ q.pass_of l
  given_else l other = ap (λ (b : Bool). cond b (Some new) (q.pass_of l)) (ne_eqb l line other)

  given_here : given.pass_of line ≡ Some new
  given_here = ap (λ (b : Bool). cond b (Some new) (q.pass_of line)) (eq-eqb line line refl)

  pub given_spares : Spares q given (λ j. j ≢ owner)
  given_spares = record {
    name = λ some_line. (refl, refl);
    more = omega arith;
    line = λ l p other is. (given_else l (λ same. other (some_is p owner (sym is ∙ ap q.pass_of same ∙ stands))) ∙ is, refl);
    no_pass = λ l within is. (given_else l (λ same. none_got owner (sym is ∙ ap q.pass_of same ∙ stands)) ∙ is, refl);
    taker = λ p other is. (refl, refl, refl, refl, refl);
  }

  pub given_taker : (pass : ℕ) (t : TakeView) → IsTaker q pass t → IsTaker given pass t
  given_taker pass t k = record { stands = k.stands; end = k.end; epoch = k.epoch; lines = k.lines; got = k.got; known = λ i u there. taken_stays q given (λ j. j ≢ owner) given_spares u (k.known i u there) }

  pub given_putter : (v : PutView) → v.line ≡ line → IsPutter q owner v → IsPutter given new v
  given_putter v same k = record { within = k.within; stands = ap given.pass_of same ∙ given_here; end = k.end; epoch = k.epoch; put = k.put }

  pub given_unused : line < q.lines → ((l : ℕ) → q.lines ≤ l → q.pass_of l ≡ None) → (l : ℕ) → q.lines ≤ l → given.pass_of l ≡ None
  given_unused within unused l past = given_else l (λ same. absurd (omega arith)) ∙ unused l past

-- a pass of one line becomes another view, and a new pass is the line's
module _ (id : ℕ) (before left : PassView) (v : PutView) (items : List Envelope) (views : List PassView) (h : ShowsQueue items views) (at : get_elem? views id ≡ some before) (mine : IsPutter h.shared id v) where
  abbrev vs : List PassView
  vs = set views id left

  abbrev q' : SharedQueue
  q' = given h.shared v.line id (length vs) mine.stands

  pub handed : KnowsQueue q' id left → ShowsQueue items (vs ++ Puts v ∷ [])
  handed left_knows = record {
    shared = q';
    is_queue = h.is_queue;
    held = h.held;
    unused = given_unused h.shared v.line id (length vs) mine.stands mine.within h.unused;
    few = h.few;
    knows = know_snoc q' vs (Puts v)
        (know_set q' views id left left_knows (λ j u other there. stays h.shared q' (λ j. j ≢ id) (given_spares h.shared v.line id (length vs) mine.stands) j u other (h.knows j u there)))
        (given_putter h.shared v.line id (length vs) mine.stands v refl mine);
  }

lends : (id : ℕ) (v : PutView) → Forks ShowsQueue id (Puts v) Spent (Puts v)
lends id v items views h at = handed id (Puts v) Spent v items views h at (h.knows id (Puts v) at) tt

gives_back : (id : ℕ) (t : TakeView) (v : PutView) → Forks ShowsQueue id (Both t v) (Takes t) (Puts v)
gives_back id t v items views h at =
    let mine = h.knows id (Both t v) at in
    handed id (Both t v) (Takes t) v items views h at mine.1 (given_taker h.shared v.line id (length (set views id (Takes t))) mine.1.stands id t mine.0)

joins : (id : ℕ) (t : TakeView) (other : ℕ) (v : PutView) → Merges ShowsQueue id (Takes t) other (Puts v) (Both t v) Spent
joins id t other v items views h at two there =
    let was : get_elem? views other ≡ some (Puts v) = ⊎_elim (λ mine. absurd (two mine.0)) (λ theirs. theirs.1) (at_set views id other (Both t v) (Puts v) there) in
    let theirs : IsPutter h.shared other v = h.knows other (Puts v) was in
    let next : SharedQueue = given h.shared v.line other id theirs.stands in
    let both : KnowsQueue next id (Both t v) = (given_taker h.shared v.line other id theirs.stands id t (h.knows id (Takes t) at), given_putter h.shared v.line other id theirs.stands v refl theirs) in
    record {
      shared = next;
      is_queue = h.is_queue;
      held = h.held;
      unused = given_unused h.shared v.line other id theirs.stands theirs.within h.unused;
      few = h.few;
      knows = know_set next (set views id (Both t v)) other Spent tt (λ j u apart now_there. ⊎_elim
          (λ me. subst (λ (w : PassView). KnowsQueue next j w) me.1 (subst (λ (i : ℕ). KnowsQueue next i (Both t v)) (sym me.0) both))
          (λ third. stays h.shared next (λ j. j ≢ other) (given_spares h.shared v.line other id theirs.stands) j u apart (h.knows j u third.1))
          (at_set views id j (Both t v) u now_there));
    }

-- the steps of passes whose views are given by equations
pub lends_at : (id : ℕ) (w : PassView) (v : PutView) → w ≡ Puts v → Forks ShowsQueue id w (lent_left w) (lent w)
lends_at id w v is = subst (λ (z : PassView). Forks ShowsQueue id z (lent_left z) (lent z)) (sym is) (lends id v)

pub joins_at : (id : ℕ) (w : PassView) (t : TakeView) (other : ℕ) (u : PassView) (v : PutView) → w ≡ Takes t → u ≡ Puts v → Merges ShowsQueue id w other u (joined_pass w u) Spent
joins_at id w t other u v is its =
    subst (λ (z : PassView). Merges ShowsQueue id z other u (joined_pass z u) Spent) (sym is)
    (subst (λ (y : PassView). Merges ShowsQueue id (Takes t) other y (joined_pass (Takes t) y) Spent) (sym its) (joins id t other v))

pub gives_back_at : (id : ℕ) (w : PassView) (t : TakeView) (v : PutView) → w ≡ Both t v → Forks ShowsQueue id w (taker_again w) (line_again w)
gives_back_at id w t v is = subst (λ (z : PassView). Forks ShowsQueue id z (taker_again z) (line_again z)) (sym is) (gives_back id t v)

-- the taker's pass has the pass of a line, and what it learns of the queue
pub are_joined : (w u : PassView) (t : TakeView) (v : PutView) → w ≡ Takes t → u ≡ Puts v → joined_pass w u ≡ Both t v
are_joined w u t v is its = λ i. joined_pass (is i) (its i)

pub compared : (w : PassView) (t : TakeView) (v : PutView) (n : ℕ) → w ≡ Both t v → Held n (Learnt w) → (v.line < t.lines) × Prefix (by v.line t.got) v.put
compared w t v n is held =
    let learnt : Learnt (Both t v) held.0 = subst (λ (z : PassView). Learnt z held.0) is held.2 in
    (learnt.0, (by v.line held.0, sym learnt.1 ∙ filter-append _ t.got held.0))

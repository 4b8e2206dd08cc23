-- What a post comes to where the line stands, and how it goes on from a queue that was retired.
use Rattle.std.proofs.Common.{◌≡◌, ℕ, zero, suc, ◌+◌, ◌<◌, ◌≤◌, List, [], ◌∷◌, take, refl, sym, ap, ◌∙◌, subst, inl, inr, ⊎_elim, arith}
use Rattle.std.specs.Prelude.{Option, Some, Result, Ok, Err}
use Rattle.hub_envelope.specs.declared.limits.TheConstants.{MAX_HOPS}
use Rattle.hub_depot.specs.declared.kept_map.Key.{Key}
use Rattle.hub_envelope.specs.declared.envelope.Draft.{Draft}
use Rattle.hub_gate.specs.declared.entry.Refusal.{Refusal}
use Rattle.hub_gate.specs.declared.entry.Refusal.TheVariants as refusal
use Rattle.hub_gate.specs.GateSeats.{EntrySeat}
use Rattle.hub_envelope.specs.declared.ids.EndId.{EndId}
use Rattle.hub_queue.specs.declared.line_right.Head.{Head}
use Rattle.hub_queue.specs.declared.store.PutView.{PutView}
use Rattle.hub_envelope.specs.declared.posted.Posted.{Posted}
use Rattle.hub_queue.specs.declared.stand.Tried.TheVariants.{Answered, Turned}
use Rattle.hub_queue.specs.declared.error.PostError.{PostError}
use Rattle.hub_queue.specs.Posting.{StaysAt, name_after, HasPassed, LeavesBehind, GoesTo, HasSeen, IsSeen, PutsNothing, IsPosted}
use Rattle.hub_queue.specs.Putting.{answer_back, lent_draft}
use Rattle.hub_queue.specs.Seats.{LineSeat, IsNameOf}
use Rattle.hub_bell.specs.Seats.{silent}
use Rattle.hub_queue.specs.Rings.{HasRung, RingsOnward}
use Rattle.hub_queue.specs.Standing.{StandSeat, FollowsStand, HasNotPushed, put_of, right_of}
use Rattle.hub_queue.specs.Trying.{IsAnswered, IsTried, gone_to, GoesToUnused, IsPostedOnward, error_of}

-- what is lent is the same draft for as long as it is the same
pub same_lent : (head : Head) {body was : Option (List ℕ)} {ports were : Option (List EndId)} → body ≡ was → ports ≡ were → lent_draft head body ports ≡ lent_draft head was were
same_lent head said sent = λ i. lent_draft head (said i) (sent i)

-- what is left behind is left of as many gates as are looked at
kept_of : (old : StandSeat) (hops n : ℕ) (left : List (Option (EntrySeat LineSeat))) → hops ≤ n → LeavesBehind old hops left → LeavesBehind old hops (take n left)
kept_of old zero n left few behind = tt
kept_of old (suc hops) zero left few behind = absurd (omega arith)
kept_of old (suc hops) (suc n) [] few behind = behind
kept_of old (suc zero) (suc n) (entry ∷ left) few behind = behind
kept_of old (suc (suc hops)) (suc n) (entry ∷ left) few behind = (behind.0, kept_of old (suc hops) n left (omega arith) behind.1)

-- a line that was turned has not pushed
nothing_put : (found : Refusal) (before now : PutView) → now ≡ before → PutsNothing before now (error_of found)
nothing_put refusal.Moved before now same = same
nothing_put refusal.Closed before now same = same

-- the line was turned where it stood, or has gone on so often and was turned where it stands now, where it has not pushed
pub record GoneOn (turned here : StandSeat) (hops : ℕ) (first found : Refusal) : Type 0 where
  pub name : here.name ≡ name_after turned.name hops
  pub left : LeavesBehind turned hops here.left
  pub none : hops ≡ 0 → (here ≡ turned) × (found ≡ first)
  pub some : 0 < hops → IsNameOf (put_of here) here.name × HasNotPushed (put_of here) × HasSeen here 0 found

-- the line goes on once more
module _ (turned here next : StandSeat) (hops : ℕ) (first found : Refusal) (gone : GoneOn turned here hops first found) (few : hops < MAX_HOPS) (is_next : FollowsStand here.name next) where
  abbrev there : StandSeat
  there = gone_to here next

  name_there : there.name ≡ name_after turned.name (hops + 1)
  name_there =
      let sum : turned.name.epoch + hops + 1 ≡ turned.name.epoch + (hops + 1) = omega arith in
      is_next.name_is ∙ ap (λ (k : Key). record { end = k.end; epoch = k.epoch + 1; line = k.line }) gone.name ∙ ap (λ (n : ℕ). record { end = turned.name.end; epoch = n; line = turned.name.line }) sum

  left_there : LeavesBehind turned (hops + 1) there.left
  left_there = let next : suc hops ≡ hops + 1 = omega arith in subst (λ (k : ℕ). LeavesBehind turned k there.left) next (behind hops few refl)
    where
      rest : (n : ℕ) → n ≡ hops → n < MAX_HOPS → LeavesBehind turned n (take 3 here.left)
      rest n same low = kept_of turned n 3 here.left (omega arith) (subst (λ (k : ℕ). LeavesBehind turned k here.left) (sym same) gone.left)

      behind : (n : ℕ) → n < MAX_HOPS → n ≡ hops → LeavesBehind turned (suc n) (Some here.entry ∷ take 3 here.left)
      behind zero low same =
          let was = (gone.none (sym same)).0 in
          (here.entry, refl, ap (λ (s : StandSeat). s.entry.gate) was, ap right_of was)
      behind (suc n) low same =
          let been = gone.some (omega arith) in
          ((here.entry, refl, subst (IsNameOf (put_of here)) (gone.name ∙ ap (name_after turned.name) (sym same)) been.0, been.1), rest (suc n) same low)

  -- and is turned there too
  pub gone_more : (now : StandSeat) (draft : Draft) (again : Refusal) → IsTried there now draft (Turned again) → GoneOn turned now (hops + 1) first again
  gone_more now draft again tried = record {
    name = tried.0.name ∙ name_there;
    left = subst (LeavesBehind turned (hops + 1)) (sym tried.0.left) left_there;
    none = λ none. absurd (omega arith);
    some = λ _. (
      subst (λ (v : PutView). IsNameOf v now.name) (sym tried.1) (subst (IsNameOf (put_of there)) (sym tried.0.name) is_next.named),
      subst HasNotPushed (sym tried.1) is_next.unused.put,
      subst (λ (n : ℕ). HasSeen now n again) is_next.unused.enters tried.2,
    );
  }

  -- where it had not pushed
  unused_at : (at : StandSeat) → StaysAt there at → GoesToUnused turned at (put_of there)
  unused_at at stays = record {
    goes = record { hops = hops + 1; some = omega arith; few = omega arith; name = stays.name ∙ name_there; left = subst (LeavesBehind turned (hops + 1)) (sym stays.left) left_there };
    named = subst (IsNameOf (put_of there)) (sym stays.name) is_next.named;
    unused = is_next.unused.put;
  }

  -- or the post is answered there
  pub answered_there : (now : StandSeat) (draft : Draft) (answer : Result Posted PostError) → IsTried there now draft (Answered answer) → IsPostedOnward turned now first draft (answer_back answer draft)
  answered_there now draft (Ok posted) tried = (put_of there, unused_at now tried.0, tried.1)
  answered_there now draft (Err why) tried = (
    refl,
    inr (
      put_of there,
      unused_at now tried.0,
      subst (PutsNothing (put_of there) (put_of now)) (sym tried.1.2) tried.1.0,
      subst (IsSeen now 0) (sym tried.1.2) tt,
    ),
  )

-- a line that has gone on stands at a later epoch
pub goes_later : (old new : StandSeat) → GoesTo old new → old.name.epoch < new.name.epoch
goes_later old new goes = let some = goes.some in let epoch = ap (λ (k : Key). k.epoch) goes.name in omega arith

-- a post is answered where the line stands
pub is_answered : (old here : StandSeat) (draft : Draft) (answer : Result Posted (PostError × Draft)) → StaysAt old here → IsAnswered (put_of old) (put_of here) draft answer → IsPosted old here draft answer
is_answered old here draft (Ok posted) stays put = (put_of old, old.entry.at.enters, inl (stays, refl, refl), put)
is_answered old here draft (Err refused) stays put = (put_of old, old.entry.at.enters, inl (stays, refl, refl), subst (PutsNothing (put_of old) (put_of here)) (sym put.2) put.0, put.1, subst (λ (e : PostError). IsSeen here old.entry.at.enters e) (sym put.2) tt)

module _ (old here : StandSeat) (draft : Draft) (found : Refusal) (tried : IsTried old here draft (Turned found)) where
  goes_from : (new : StandSeat) → GoesTo here new → GoesTo old new
  goes_from new goes = record {
    hops = goes.hops;
    some = goes.some;
    few = goes.few;
    name = goes.name ∙ ap (λ (k : Key). name_after k goes.hops) tried.0.name;
    left = behind_of goes.hops new.left goes.left;
  }
    where
      same_right : right_of here ≡ right_of old
      same_right = λ i. record { queue = tried.0.queue i; at = tried.1 i }

      passed_of : (n : ℕ) (entry : Option (EntrySeat LineSeat)) → HasPassed (name_after here.name n) entry → HasPassed (name_after old.name n) entry
      passed_of n entry passed = subst (λ (k : Key). HasPassed (name_after k n) entry) tried.0.name passed

      behind_of : (hops : ℕ) (left : List (Option (EntrySeat LineSeat))) → LeavesBehind here hops left → LeavesBehind old hops left
      behind_of zero left behind = tt
      behind_of (suc hops) [] behind = behind
      behind_of (suc zero) (entry ∷ left) behind = (behind.0, behind.1, behind.2 ∙ tried.0.gate, behind.3 ∙ same_right)
      behind_of (suc (suc hops)) (entry ∷ left) behind = (passed_of (suc hops) entry behind.0, behind_of (suc hops) left behind.1)

  is_seen : (f : Refusal) → HasSeen here old.entry.at.enters f → IsSeen here old.entry.at.enters (error_of f)
  is_seen refusal.Moved s = s
  is_seen refusal.Closed s = s

  -- a post goes on from where the line was turned
  pub is_posted : (new : StandSeat) (answer : Result Posted (PostError × Draft)) → IsPostedOnward here new found draft answer → IsPosted old new draft answer
  is_posted new (Ok posted) (before, unused, put) = (before, 0, inr (goes_from new unused.goes, unused.named, unused.unused, refl), put)
  is_posted new (Err refused) (back, onward) = ⊎_elim
      (λ ended. (
        put_of old,
        old.entry.at.enters,
        inl (subst (λ (s : StandSeat). StaysAt old s) (sym ended.0) tried.0, refl, refl),
        subst (PutsNothing (put_of old) (put_of new)) (sym ended.1) (nothing_put found (put_of old) (put_of new) (ap put_of ended.0 ∙ tried.1)),
        back,
        subst (λ (e : PostError). IsSeen new old.entry.at.enters e) (sym ended.1) (subst (λ (s : StandSeat). IsSeen s old.entry.at.enters (error_of found)) (sym ended.0) (is_seen found tried.2)),
      ))
      (λ far. (far.0, 0, inr (goes_from new far.1.goes, far.1.named, far.1.unused, refl), far.2, back, far.3))
      onward

  -- and what its bell had done before is nothing
  pub rung_onward : (new : StandSeat) (answer : Result Posted (PostError × Draft)) → IsPostedOnward here new found draft answer → RingsOnward new answer → HasRung old new answer
  rung_onward new (Ok posted) (before, unused, put) rung = (silent, inr (goes_from new unused.goes, refl), rung)
  rung_onward new (Err refused) onward rung = tt

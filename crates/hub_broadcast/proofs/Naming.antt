-- What a post leaves of the name of a line, and how an accepted one is named.
use Rattle.std.proofs.Common.{◌≡◌, ℕ, Result, Ok, Err, List, [], ◌∷◌, ◌++◌, inl, inr, refl, sym, ap, subst, ◌∙◌}
use Rattle.std.proofs.lemmas.List.{same_from_push}
use Rattle.hub_envelope.specs.declared.envelope.Draft.{Draft}
use Rattle.hub_envelope.specs.declared.ids.EndId.{EndId}
use Rattle.hub_envelope.specs.declared.posted.Posted.{Posted}
use Rattle.hub_depot.specs.declared.kept_map.Key.{Key}
use Rattle.hub_queue.specs.declared.store.PutView.{PutView}
use Rattle.hub_queue.specs.declared.error.PostError.{PostError}
use Rattle.hub_queue.specs.declared.error.PostError.TheVariants.{Closed, Moving, OutOfMemory}
use Rattle.hub_queue.specs.Mailboxes.{IsOpenMailbox, new_stand}
use Rattle.hub_queue.specs.Posting.{IsPosted, PutsNothing, StoodAs}
use Rattle.hub_queue.specs.Seats.{IsNameOf}
use Rattle.hub_queue.specs.Standing.{StandSeat, put_of}
use Rattle.hub_queue.specs.Taking.{TakerSeat}

-- a post leaves the line at its end
pub stood_end : (old new : StandSeat) (before : PutView) (entered : ℕ) → StoodAs old new before entered → new.name.end ≡ old.name.end
stood_end old new before entered (inl stays) = ap (λ k. k.end) stays.0.name
stood_end old new before entered (inr goes) = ap (λ k. k.end) goes.0.name

-- the line is named by its name before it puts anything, where it stood before or where it has gone on
stood_named : (old new : StandSeat) (before : PutView) (entered : ℕ) → StoodAs old new before entered → IsNameOf (put_of old) old.name → IsNameOf before new.name
stood_named old new before entered (inl stays) named =
    subst (λ (v : PutView). IsNameOf v new.name) (sym stays.1) (subst (λ (k : Key). IsNameOf (put_of old) k) (sym stays.0.name) named)
stood_named old new before entered (inr goes) named = goes.1

nothing_named : (before now : PutView) (name : Key) (refused : PostError) → PutsNothing before now refused → IsNameOf before name → IsNameOf now name
nothing_named before now name Closed is named = subst (λ (v : PutView). IsNameOf v name) (sym is) named
nothing_named before now name Moving is named = subst (λ (v : PutView). IsNameOf v name) (sym is) named
nothing_named before now name OutOfMemory (inl is) named = subst (λ (v : PutView). IsNameOf v name) (sym is) (record { end = named.end; epoch = named.epoch; line = named.line })
nothing_named before now name OutOfMemory (inr is) named = subst (λ (v : PutView). IsNameOf v name) (sym is.0) named

-- a post leaves the line named by its name
pub posted_named : (old new : StandSeat) (draft : Draft) (answer : Result Posted (PostError × Draft)) → IsPosted old new draft answer → IsNameOf (put_of old) old.name → IsNameOf (put_of new) new.name
posted_named old new draft (Ok posted) (before, entered, stood, put) named =
    let was = stood_named old new before entered stood named in
    subst (λ (v : PutView). IsNameOf v new.name) (sym put.1) (record { end = was.end; epoch = was.epoch; line = was.line })
posted_named old new draft (Err refused) (before, entered, stood, nothing, back, seen) named =
    nothing_named before (put_of new) new.name refused.0 nothing (stood_named old new before entered stood named)

-- the poster at the end of the list of a new mailbox with one line is named by its name, at the end of the mailbox
pub only_named : (end : EndId) (opened : TakerSeat) (posters rest : List StandSeat) (poster : StandSeat) → IsOpenMailbox end 1 opened posters → posters ≡ rest ++ poster ∷ [] → IsNameOf (put_of poster) poster.name × (poster.name.end ≡ end)
only_named end opened posters rest poster made split =
    let one : rest ++ poster ∷ [] ≡ [] ++ new_stand opened.newest.keeper.gate opened.newest.queue end 0 0 ∷ [] = sym split ∙ made.posters_are in
    let same = same_from_push rest [] poster (new_stand opened.newest.keeper.gate opened.newest.queue end 0 0) one in (
      subst (λ (s : StandSeat). IsNameOf (put_of s) s.name) (sym same.1) (record { end = refl; epoch = refl; line = refl }),
      ap (λ (s : StandSeat). s.name.end) same.1,
    )

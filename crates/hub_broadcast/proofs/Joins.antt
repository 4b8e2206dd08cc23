-- The one line of a new member.
use Rattle.std.proofs.Common.{◌≡◌, ℕ, Option, Some, List, [], ◌∷◌, ◌++◌, sym, ap, subst, ◌∙◌}
use Rattle.std.specs.Option.{option_to_list}
use Rattle.std.proofs.lemmas.List.{same_from_push}
use Rattle.hub_envelope.specs.declared.ids.EndId.{EndId}
use Rattle.hub_queue.specs.Mailboxes.{IsOpenMailbox, new_stand}
use Rattle.hub_queue.specs.Standing.{StandSeat}
use Rattle.hub_queue.specs.Taking.{TakerSeat}

-- the poster at the end of the list of a mailbox with one line is its only one
pub only_poster : (number : ℕ) (end : EndId) (opened : TakerSeat) (posters rest : List StandSeat) (poster : StandSeat) → end.0 ≡ number → IsOpenMailbox end 1 opened posters → posters ≡ rest ++ poster ∷ [] → IsOpenMailbox (record { 0 = number }) 1 opened (poster ∷ [])
only_poster number end opened posters rest poster least made split =
    let one : rest ++ poster ∷ [] ≡ [] ++ new_stand opened.newest.keeper.gate opened.newest.queue end 0 0 ∷ [] = sym split ∙ made.posters_are in
    let same = same_from_push rest [] poster (new_stand opened.newest.keeper.gate opened.newest.queue end 0 0) one in
    let alone : posters ≡ poster ∷ [] = split ∙ ap (λ l. l ++ poster ∷ []) same.0 in
    subst (λ n. IsOpenMailbox (record { 0 = n }) 1 opened (poster ∷ [])) least (subst (λ l. IsOpenMailbox end 1 opened l) alone made)

-- what was popped stood last
pub popped_last : (before after : List StandSeat) (popped : Option StandSeat) (poster : StandSeat) → before ≡ after ++ option_to_list popped → popped ≡ Some poster → before ≡ after ++ poster ∷ []
popped_last before after popped poster split some_poster = split ∙ ap (λ (o : Option StandSeat). after ++ option_to_list o) some_poster

-- The rights of all lines of a queue, and what the taker knows once it has taken in their passes.
use Rattle.std.proofs.Common.{◌≡◌, ℕ, zero, suc, ◌<◌, ◌≤◌, List, [], ◌∷◌, ◌++◌, map, length, get_or, refl, sym, ap, ◌∙◌, subst, arith, length-append, Some}
use Rattle.std.specs.Prelude.{slice_get}
use Rattle.std.proofs.lemmas.List.{map-append, length-map}
use Rattle.atomic_blocks.specs.Laid.{WebId}
use Rattle.hub_envelope.specs.declared.limits.TheConstants.{MAX_LINES}
use Rattle.hub_gate.specs.GateSeats.{KeeperSeat}
use Rattle.hub_core.proofs.Items.{some_is, got_there, got-map}
use Rattle.hub_queue.specs.declared.store.PutView.{PutView}
use Rattle.hub_queue.specs.declared.store.TakeView.{TakeView}
use Rattle.hub_queue.specs.declared.store.PassView.{PassView}
use Rattle.hub_queue.specs.declared.store.PassView.TheVariants.{Takes, Puts}
use Rattle.hub_queue.specs.PassSteps.{taken_in}
use Rattle.hub_queue.specs.TakerQueues.{tags_of, HasTags, KnowsAll}
use Rattle.hub_queue.specs.Seats.{LineSeat, tag_of}
use Rattle.hub_queue.specs.Settling.{knowing}
use Rattle.hub_queue.proofs.Below.{parts_snoc, many_below, at_below}

many_tags : (web : WebId) (n : ℕ) → length (tags_of web n) ≡ n
many_tags web n = many_below (λ i. web.0 ∷ web.1 ∷ i ∷ []) (tags_of web) refl (λ n. refl) n

tag_at : (web : WebId) (n i : ℕ) → i < n → slice_get (tags_of web n) i ≡ Some (web.0 ∷ web.1 ∷ i ∷ [])
tag_at web n i low = at_below (λ i. web.0 ∷ web.1 ∷ i ∷ []) (tags_of web) refl (λ n. refl) n i low

-- the tags of the rights of a gate are as many as the rights
pub tags_by_count : (web : WebId) (at : TakeView) (keeper : KeeperSeat LineSeat) (rights : List LineSeat) → HasTags web at keeper → map tag_of rights ≡ keeper.at.tags → map tag_of rights ≡ tags_of web (length rights)
tags_by_count web at keeper rights has is =
    let all : map tag_of rights ≡ tags_of web at.lines = is ∙ has.tags in
    let many : at.lines ≡ length rights = sym (many_tags web at.lines) ∙ sym (ap length all) ∙ length-map rights tag_of in
    all ∙ ap (tags_of web) many

-- the tags stay while neither they nor the number of lines change
pub tags_stay : (web : WebId) (t t' : TakeView) (k k' : KeeperSeat LineSeat) → t'.lines ≡ t.lines → k'.at.tags ≡ k.at.tags → HasTags web t k → HasTags web t' k'
tags_stay web t t' k k' lines tags has = record { tags = tags ∙ has.tags ∙ ap (tags_of web) (sym lines); few = subst (λ (n : ℕ). n ≤ MAX_LINES) (sym lines) has.few }

-- the right of the last line, and those of the lines before it
pub last_tag : (web : WebId) (rs : List LineSeat) (r : LineSeat) (all : List LineSeat) → all ≡ rs ++ r ∷ [] → map tag_of all ≡ tags_of web (length all) → (map tag_of rs ≡ tags_of web (length rs)) × (tag_of r ≡ web.0 ∷ web.1 ∷ length rs ∷ [])
last_tag web rs r all last is =
    let many : length all ≡ suc (length rs) = let n = ap length last in omega (arith, length-append rs (r ∷ [])) in
    parts_snoc (map tag_of rs) (tags_of web (length rs)) (tag_of r) (web.0 ∷ web.1 ∷ length rs ∷ []) (sym (map-append tag_of rs (r ∷ [])) ∙ ap (map tag_of) (sym last) ∙ is ∙ ap (tags_of web) many)

pub queue_in : (web : WebId) (r : LineSeat) (l : ℕ) → tag_of r ≡ web.0 ∷ web.1 ∷ l ∷ [] → r.queue ≡ web
queue_in web r l is = λ i. (get_or (is i) 0 0, get_or (is i) 1 0)

-- the pass of one line more was taken in
pub knowing_more : (t : TakeView) (done : List LineSeat) (r : LineSeat) (w u new : PassView) (v : PutView) → w ≡ Takes (knowing t done) → u ≡ Puts v → v ≡ r.at → new ≡ taken_in w u → new ≡ Takes (knowing t (r ∷ done))
knowing_more t done r w u new v is its view now =
    now ∙ (λ i. taken_in (is i) ((its ∙ ap Puts view) i))

got_front : {A : Type 0} (xs ys : List A) (i : ℕ) → i < length xs → slice_get (xs ++ ys) i ≡ slice_get xs i
got_front [] ys i low = absurd (omega arith)
got_front (x ∷ xs) ys zero low = refl
got_front (x ∷ xs) ys (suc i) low = got_front xs ys i (omega arith)

-- with the rights of all lines every line is known
pub knows_all : (web : WebId) (t : TakeView) (rights : List LineSeat) → map tag_of rights ≡ tags_of web t.lines → KnowsAll (knowing t rights)
knows_all web t rights is line low =
    let many : length rights ≡ t.lines = sym (length-map rights tag_of) ∙ ap length is ∙ many_tags web t.lines in
    let there = got_there rights line (omega arith) in
    let longer = length-map rights (λ (r : LineSeat). r.at) in
    let tag_is : tag_of there.0 ≡ web.0 ∷ web.1 ∷ line ∷ [] = some_is _ _ (sym (got-map tag_of rights line there.0 there.1) ∙ ap (λ (l : List (List ℕ)). slice_get l line) is ∙ tag_at web t.lines line low) in (
      there.0.at,
      got_front (map (λ r. r.at) rights) t.known line (omega arith) ∙ got-map (λ (r : LineSeat). r.at) rights line there.0 there.1,
      ap (λ (l : List ℕ). get_or l 2 0) tag_is,
    )

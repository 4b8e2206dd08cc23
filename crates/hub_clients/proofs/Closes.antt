-- What whoever is told hears of queues that are closed one after another.
use Rattle.std.proofs.Common.{◌≡◌, List, [], ◌∷◌, ◌++◌, refl, ap, sym, ◌∙◌, append_assoc, append-nil, option_map, Option, Some, None, IfSome}
use Rattle.std.specs.FinMap as map
use Rattle.hub_queue.specs.Ending.{IsClosed}
use Rattle.hub_queue.specs.Graves.{GraveSeat}
use Rattle.hub_clients.specs.declared.handed.Handed.{Handed}
use Rattle.hub_clients.specs.Handing.{Waiting, waiting_name, taker_of, ClosesTo, AreToldClosed}

closes_more : (waiting now : Waiting) (gs : List GraveSeat) (h : Handed) (g : GraveSeat) → ClosesTo waiting now gs → map.get now (waiting_name h) ≡ Some h → IsClosed (taker_of h.queue) g → ClosesTo waiting (map.remove now (waiting_name h)) (gs ++ g ∷ [])
closes_more waiting now [] h g same got closed = (h, ap (λ (w : Waiting). map.get w (waiting_name h)) (sym same) ∙ got, closed, ap (λ (w : Waiting). map.remove w (waiting_name h)) same)
closes_more waiting now (f ∷ gs) h g (k, found, mine, rest) got closed = (k, found, mine, closes_more (map.remove waiting (waiting_name k)) now gs h g rest got closed)

-- nothing was told yet
pub none_closed : (was now : Option (List GraveSeat)) (waiting : Waiting) → now ≡ was → IfSome was (λ before. AreToldClosed waiting waiting before now)
none_closed None now waiting same = tt
none_closed (Some before) now waiting same = ([], same ∙ ap Some (sym (append-nil before)), refl)

-- one queue more was closed
pub one_closed : (was now later : Option (List GraveSeat)) (waiting here : Waiting) (h : Handed) (g : GraveSeat) → IfSome was (λ before. AreToldClosed waiting here before now) → later ≡ option_map (λ list. list ++ g ∷ []) now → map.get here (waiting_name h) ≡ Some h → IsClosed (taker_of h.queue) g
    → IfSome was (λ before. AreToldClosed waiting (map.remove here (waiting_name h)) before later)
one_closed None now later waiting here h g so_far told got closed = tt
one_closed (Some before) now later waiting here h g (graves, heard, closes) told got closed = (
  graves ++ g ∷ [],
  told ∙ ap (option_map (λ list. list ++ g ∷ [])) heard ∙ ap Some (append_assoc before graves (g ∷ [])),
  closes_more waiting here graves h g closes got closed,
)

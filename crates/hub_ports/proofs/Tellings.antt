-- What whoever is told hears of ends that are emptied one after another.
use Rattle.std.proofs.Common.{◌≡◌, List, [], ◌∷◌, ◌++◌, refl, ap, sym, ◌∙◌, append_assoc, append-nil, option_map, Option, Some, None, IfSome}
use Rattle.std.specs.FinMap as map
use Rattle.hub_queue.specs.Graves.{GraveSeat, SweptSeat}
use Rattle.hub_queue.specs.Sweeping.{IsSweptOut}
use Rattle.hub_ports.specs.Arriving.{Flight}
use Rattle.hub_ports.specs.Closing.{Emptied, IsEmptiedAs, EmptiesTo, AreToldEmptied}
use Rattle.hub_ports.specs.Seats.{PortSeat, end_of, place_of}

empties_more : (flight now : Flight) (es : List Emptied) (p : PortSeat) (e : Emptied) → EmptiesTo flight now es → map.get now (place_of (end_of p)) ≡ Some p → IsEmptiedAs p e → EmptiesTo flight (map.remove now (place_of (end_of p))) (es ++ e ∷ [])
empties_more flight now [] p e same got emptied = (p, ap (λ (f : Flight). map.get f (place_of (end_of p))) (sym same) ∙ got, emptied, ap (λ (f : Flight). map.remove f (place_of (end_of p))) same)
empties_more flight now (d ∷ es) p e (q, found, mine, rest) got emptied = (q, found, mine, empties_more (map.remove flight (place_of (end_of q))) now es p e rest got emptied)

-- nothing was told yet, and there was no grave
pub none_emptied : (was now : Option (List Emptied)) (flight : Flight) → now ≡ was → IfSome was (λ before. AreToldEmptied None flight flight before now)
none_emptied None now flight same = tt
none_emptied (Some before) now flight same = ([], [], same ∙ ap Some (sym (append-nil (before ++ []) ∙ append-nil before)), refl, refl)

-- the grave was emptied
pub grave_emptied : (was now : Option (List Emptied)) (flight : Flight) (g : GraveSeat) (s : SweptSeat) → now ≡ option_map (λ list. list ++ (s, None) ∷ []) was → IsSweptOut g s → IfSome was (λ before. AreToldEmptied (Some g) flight flight before now)
grave_emptied None now flight g s told swept = tt
grave_emptied (Some before) now flight g s told swept = ((s, None) ∷ [], [], told ∙ ap Some (sym (append-nil (before ++ (s, None) ∷ []))), (s, refl, swept), refl)

-- a port more was
pub one_emptied : (was now later : Option (List Emptied)) (grave : Option GraveSeat) (flight here : Flight) (p : PortSeat) (e : Emptied) → IfSome was (λ before. AreToldEmptied grave flight here before now) → later ≡ option_map (λ list. list ++ e ∷ []) now → map.get here (place_of (end_of p)) ≡ Some p → IsEmptiedAs p e
    → IfSome was (λ before. AreToldEmptied grave flight (map.remove here (place_of (end_of p))) before later)
one_emptied None now later grave flight here p e so_far told got emptied = tt
one_emptied (Some before) now later grave flight here p e (first, rest, heard, is_first, empties) told got emptied = (
  first,
  rest ++ e ∷ [],
  told ∙ ap (option_map (λ list. list ++ e ∷ [])) heard ∙ ap Some (append_assoc (before ++ first) rest (e ∷ [])),
  is_first,
  empties_more flight here rest p e empties got emptied,
)

-- two things were told, one after the other
pub told_both : {T : Type 0} (was now later : Option (List T)) (first second : T) → now ≡ option_map (λ list. list ++ first ∷ []) was → later ≡ option_map (λ list. list ++ second ∷ []) now → later ≡ option_map (λ list. list ++ first ∷ second ∷ []) was
told_both None now later first second one two = two ∙ ap (option_map (λ list. list ++ second ∷ [])) one
told_both (Some list) now later first second one two = two ∙ ap (option_map (λ list. list ++ second ∷ [])) one ∙ ap Some (append_assoc list (first ∷ []) (second ∷ []))

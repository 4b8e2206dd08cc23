-- The ports that an envelope names are looked for one after another.
use Rattle.std.proofs.Common.{◌≡◌, ℕ, ◌+◌, ◌<◌, List, [], ◌∷◌, ◌++◌, length, take, get_or, refl, ap, ◌∙◌, sym, subst, append_assoc, append-nil, option_map, Option, Some, None, IfSome}
use Rattle.std.proofs.lemmas.List.{take_more}
use Rattle.std.specs.FinMap as map
use Rattle.hub_depot.specs.declared.kept_map.Key.{Key}
use Rattle.hub_envelope.specs.declared.ids.EndId.{EndId}
use Rattle.hub_ports.specs.Arriving.{Flight, left_in_flight, found_one, missing_one, found_in, missing_in, HasArrived}
use Rattle.hub_ports.specs.Seats.{PortSeat, place_of}

-- one number more
left_more : (flight : Flight) (ns : List EndId) (n : EndId) → left_in_flight flight (ns ++ n ∷ []) ≡ map.remove (left_in_flight flight ns) (place_of n)
left_more flight [] n = refl
left_more flight (m ∷ ns) n = left_more (map.remove flight (place_of m)) ns n

found_more : (flight : Flight) (ns : List EndId) (n : EndId) → found_in flight (ns ++ n ∷ []) ≡ found_in flight ns ++ found_one (map.get (left_in_flight flight ns) (place_of n))
found_more flight [] n = append-nil (found_one (map.get flight (place_of n)))
found_more flight (m ∷ ns) n =
    let first : List PortSeat = found_one (map.get flight (place_of m)) in
    let rest : Flight = map.remove flight (place_of m) in
    ap (λ (l : List PortSeat). first ++ l) (found_more rest ns n) ∙ sym (append_assoc first (found_in rest ns) (found_one (map.get (left_in_flight rest ns) (place_of n))))

missing_more : (flight : Flight) (ns : List EndId) (n : EndId) → missing_in flight (ns ++ n ∷ []) ≡ missing_in flight ns ++ missing_one (map.get (left_in_flight flight ns) (place_of n)) n
missing_more flight [] n = append-nil (missing_one (map.get flight (place_of n)) n)
missing_more flight (m ∷ ns) n =
    let first : List EndId = missing_one (map.get flight (place_of m)) m in
    let rest : Flight = map.remove flight (place_of m) in
    ap (λ (l : List EndId). first ++ l) (missing_more rest ns n) ∙ sym (append_assoc first (missing_in rest ns) (missing_one (map.get (left_in_flight rest ns) (place_of n)) n))

-- so far these numbers were looked for
pub record HaveArrived (was now : Option Flight) (ns : List EndId) (found : List PortSeat) (missing : List EndId) : Type 0 where
  pub left : now ≡ option_map (λ flight. left_in_flight flight ns) was
  pub arrived : IfSome was (λ flight. HasArrived flight ns found missing)

pub none_arrived : (was : Option Flight) (found : List PortSeat) (missing : List EndId) → found ≡ [] → missing ≡ [] → HaveArrived was was [] found missing
none_arrived None found missing no_port no_number = record { left = refl; arrived = tt }
none_arrived (Some flight) found missing no_port no_number = record { left = refl; arrived = record { found_is = no_port; missing_is = no_number } }

pub one_arrived : (was now later : Option Flight) (ns : List EndId) (n : EndId) (got : Option PortSeat) (found found' : List PortSeat) (missing missing' : List EndId) → HaveArrived was now ns found missing → IfSome now (λ flight. got ≡ map.get flight (place_of n)) → later ≡ option_map (λ flight. map.remove flight (place_of n)) now
    → found' ≡ found ++ found_one got → missing' ≡ missing ++ missing_one got n → HaveArrived was later (ns ++ n ∷ []) found' missing'
one_arrived None now later ns n got found found' missing missing' so_far value rest more less = record { left = rest ∙ ap (option_map (λ flight. map.remove flight (place_of n))) so_far.left; arrived = tt }
one_arrived (Some flight) now later ns n got found found' missing missing' so_far value rest more less =
    let got_is : got ≡ map.get (left_in_flight flight ns) (place_of n) = subst (λ (o : Option Flight). IfSome o (λ f. got ≡ map.get f (place_of n))) so_far.left value in
    record {
      left = rest ∙ ap (option_map (λ f. map.remove f (place_of n))) so_far.left ∙ ap Some (sym (left_more flight ns n));
      arrived = record {
        found_is = more ∙ (λ i. so_far.arrived.found_is i ++ found_one (got_is i)) ∙ sym (found_more flight ns n);
        missing_is = less ∙ (λ i. so_far.arrived.missing_is i ++ missing_one (got_is i) n) ∙ sym (missing_more flight ns n);
      };
    }

-- the numbers are those of a list, as far as it was gone through
pub next_arrived : (was now later : Option Flight) (all : List EndId) (i : ℕ) (d : EndId) (key : Key) (got : Option PortSeat) (found found' : List PortSeat) (missing missing' : List EndId) → i < length all → HaveArrived was now (take i all) found missing → key ≡ place_of (get_or all i d)
    → IfSome now (λ flight. got ≡ map.get flight key) → later ≡ option_map (λ flight. map.remove flight key) now → found' ≡ found ++ found_one got → missing' ≡ missing ++ missing_one got (get_or all i d) → HaveArrived was later (take (i + 1) all) found' missing'
next_arrived was now later all i d key got found found' missing missing' below so_far named value rest more less =
    let n : EndId = get_or all i d in
    subst (λ (ns : List EndId). HaveArrived was later ns found' missing') (sym (take_more all i d below))
    (one_arrived was now later (take i all) n got found found' missing missing' so_far (subst (λ (k : Key). IfSome now (λ flight. got ≡ map.get flight k)) named value) (rest ∙ ap (λ (k : Key). option_map (λ flight. map.remove flight k) now) named) more less)

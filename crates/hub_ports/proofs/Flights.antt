-- Ports are put in flight one after another, and come back in the other order.
use Rattle.std.proofs.Common.{◌≡◌, ℕ, suc, ◌+◌, ◌<◌, ◌≤◌, Bool, cond, List, [], ◌∷◌, ◌++◌, length, drop, get_or, refl, ap, ◌∙◌, sym, subst, append_assoc, append-nil, option_map, Option, Some, None, IfSome}
use Rattle.std.specs.FinMap as map
use Rattle.std.specs.FinMap.{get-insert}
use Rattle.std.proofs.Math.ListN.{drop_of_length-le}
use Rattle.std.proofs.Math.Seq.{drop-append_seam}
use Rattle.std.proofs.lemmas.List.{drop_more, map-append}
use Rattle.std.specs.Cmp.{eq_by_cmp_equiv}
use Rattle.hub_depot.specs.declared.kept_map.Key.{Key}
use Rattle.hub_depot.proofs.Keys.{keys_total}
use Rattle.hub_depot.proofs.ManyPut.{remove-insert}
use Rattle.hub_envelope.specs.declared.ids.EndId.{EndId}
use Rattle.hub_ports.specs.Arriving.{Flight}
use Rattle.hub_ports.specs.declared.closing.ClosedPort.{ClosedPort}
use Rattle.hub_ports.specs.declared.error.SendRefusal.{SendRefusal}
use Rattle.hub_ports.specs.declared.error.SendRefusal.TheVariants.{Closed, Moving, OutOfMemory, Doomed, TooManyPorts, Strayed, Taken}
use Rattle.hub_ports.specs.declared.parcel.Parcel.{Parcel}
use Rattle.hub_ports.specs.Flying.{in_flight, AreFree, HaveFlownBehind, GivesBack}
use Rattle.hub_queue.specs.declared.error.PostError.{PostError}
use Rattle.hub_queue.specs.declared.error.PostError.TheVariants as why
use Rattle.hub_ports.specs.Refusing.{error_with, refusal_of, IsOfFlight}
use Rattle.hub_ports.specs.Seats.{PortSeat, end_of, ends_of, place_of}

got_same : (flight : Flight) (k : Key) (p : PortSeat) → map.get (map.insert flight k p) k ≡ Some p
got_same flight k p = get-insert keys_total flight k p k ∙ ap (λ (b : Bool). cond b (Some p) (map.get flight k)) ((eq_by_cmp_equiv keys_total).refl k)

-- the ports that are to be called back still, of which the first is the next
pub record IsComingBack (kept : Flight) (numbers : List EndId) (i : ℕ) (now : Option Flight) (left : List PortSeat) : Type 0 where
  pub now_is : now ≡ Some (in_flight kept left)
  pub free : AreFree kept left
  pub named : drop i numbers ≡ ends_of left

-- the next one is found
pub record CameOne (kept : Flight) (numbers : List EndId) (i : ℕ) (later : Option Flight) (left : List PortSeat) (got : Option PortSeat) : Type 0 where
  pub port : PortSeat
  pub rest : List PortSeat
  pub left_is : left ≡ port ∷ rest
  pub got_is : got ≡ Some port
  pub coming : IsComingBack kept numbers (i + 1) later rest

pub come_one : (kept : Flight) (numbers : List EndId) (i : ℕ) (d : EndId) (now later : Option Flight) (left : List PortSeat) (got : Option PortSeat) → i < length numbers → IsComingBack kept numbers i now left
    → IfSome now (λ f. got ≡ map.get f (place_of (get_or numbers i d))) → later ≡ option_map (λ f. map.remove f (place_of (get_or numbers i d))) now → CameOne kept numbers i later left got
come_one kept numbers i d now later [] got below coming value rest =
    let wrong : get_or numbers i d ∷ drop (i + 1) numbers ≡ [] = sym (drop_more numbers i d below) ∙ coming.named in
    absurd cc
come_one kept numbers i d now later (p ∷ ps) got below coming value rest =
    let n : EndId = get_or numbers i d in
    let flight : Flight = in_flight kept ps in
    let split : n ∷ drop (i + 1) numbers ≡ end_of p ∷ ends_of ps = sym (drop_more numbers i d below) ∙ coming.named in
    let first : n ≡ end_of p = cc in
    let behind : drop (i + 1) numbers ≡ ends_of ps = cc in
    let found : got ≡ map.get (map.insert flight (place_of (end_of p)) p) (place_of n) = subst (λ (o : Option Flight). IfSome o (λ f. got ≡ map.get f (place_of n))) coming.now_is value in
    record {
      port = p;
      rest = ps;
      left_is = refl;
      got_is = found ∙ ap (λ (m : EndId). map.get (map.insert flight (place_of (end_of p)) p) (place_of m)) first ∙ got_same flight (place_of (end_of p)) p;
      coming = record {
        now_is = rest ∙ ap (option_map (λ f. map.remove f (place_of n))) coming.now_is
            ∙ ap (λ (m : EndId). Some (map.remove (map.insert flight (place_of (end_of p)) p) (place_of m))) first
            ∙ ap Some (remove-insert flight (place_of (end_of p)) p coming.free.0);
        free = coming.free.1;
        named = behind;
      };
    }

-- of the ports that were sent these came back so far
pub record ComesBack (kept : Flight) (sent begun : List PortSeat) (numbers : List EndId) (i : ℕ) (now : Option Flight) (ports : List PortSeat) (missing : List EndId) : Type 0 where
  pub here : List PortSeat
  pub left : List PortSeat
  pub sent_is : sent ≡ here ++ left
  pub ports_are : ports ≡ begun ++ here
  pub none : missing ≡ []
  pub coming : IsComingBack kept numbers i now left

many_ends : (ports : List PortSeat) → length (ends_of ports) ≡ length ports
many_ends [] = refl
many_ends (p ∷ ps) = ap (λ (n : ℕ). suc n) (many_ends ps)

pub none_back : (kept : Flight) (sent begun : List PortSeat) (numbers : List EndId) (i : ℕ) (now : Option Flight) (missing : List EndId) → i ≡ length begun → missing ≡ [] → now ≡ Some (in_flight kept sent) → AreFree kept sent → numbers ≡ ends_of begun ++ ends_of sent → ComesBack kept sent begun numbers i now begun missing
none_back kept sent begun numbers i now missing count none now_is free named = record {
  here = [];
  left = sent;
  sent_is = refl;
  ports_are = sym (append-nil begun);
  none = none;
  coming = record {
    now_is = now_is;
    free = free;
    named = (λ j. drop ((count ∙ sym (many_ends begun)) j) (named j)) ∙ drop-append_seam (ends_of begun) (ends_of sent);
  };
}

pub one_back : (kept : Flight) (sent begun : List PortSeat) (numbers : List EndId) (i : ℕ) (d : EndId) (now later : Option Flight) (ports ports' : List PortSeat) (missing missing' : List EndId) (p : PortSeat) (key : Key) → i < length numbers → ComesBack kept sent begun numbers i now ports missing → key ≡ place_of (get_or numbers i d)
    → IfSome now (λ f. Some p ≡ map.get f key) → later ≡ option_map (λ f. map.remove f key) now → ports' ≡ ports ++ p ∷ [] → missing' ≡ missing → ComesBack kept sent begun numbers (i + 1) later ports' missing'
one_back kept sent begun numbers i d now later ports ports' missing missing' p key below so_far named value rest more same =
    let one = come_one kept numbers i d now later so_far.left (Some p) below so_far.coming (subst (λ (k : Key). IfSome now (λ f. Some p ≡ map.get f k)) named value) (rest ∙ ap (λ (k : Key). option_map (λ f. map.remove f k) now) named) in
    let is : p ≡ one.port = cc (one.got_is) in
    record {
      here = so_far.here ++ p ∷ [];
      left = one.rest;
      sent_is = so_far.sent_is ∙ ap (λ (l : List PortSeat). so_far.here ++ l) (one.left_is ∙ ap (λ (q : PortSeat). q ∷ one.rest) (sym is)) ∙ sym (append_assoc so_far.here (p ∷ []) one.rest);
      ports_are = more ∙ ap (λ (l : List PortSeat). l ++ p ∷ []) so_far.ports_are ∙ append_assoc begun so_far.here (p ∷ []);
      none = same ∙ so_far.none;
      coming = one.coming;
    }

-- none of them is missing
pub none_missing : (kept : Flight) (sent begun : List PortSeat) (numbers : List EndId) (i : ℕ) (d : EndId) (now later : Option Flight) (ports : List PortSeat) (missing : List EndId) (key : Key) → i < length numbers → ComesBack kept sent begun numbers i now ports missing → key ≡ place_of (get_or numbers i d)
    → IfSome now (λ f. None ≡ map.get f key) → later ≡ option_map (λ f. map.remove f key) now → ⊥
none_missing kept sent begun numbers i d now later ports missing key below so_far named value rest =
    let one = come_one kept numbers i d now later so_far.left None below so_far.coming (subst (λ (k : Key). IfSome now (λ f. None ≡ map.get f k)) named value) (rest ∙ ap (λ (k : Key). option_map (λ f. map.remove f k) now) named) in
    let wrong = one.got_is in
    cc

-- in the end all came back
pub all_back : (kept : Flight) (sent begun : List PortSeat) (numbers : List EndId) (i : ℕ) (now : Option Flight) (ports : List PortSeat) (missing : List EndId) → length numbers ≤ i → ComesBack kept sent begun numbers i now ports missing → (ports ≡ begun ++ sent) × (missing ≡ []) × (now ≡ Some kept)
all_back kept sent begun numbers i now ports missing past so_far = at_end so_far.left (so_far.sent_is, so_far.ports_are, so_far.none, so_far.coming)
  where
    at_end : (left : List PortSeat) → (sent ≡ so_far.here ++ left) × (ports ≡ begun ++ so_far.here) × (missing ≡ []) × IsComingBack kept numbers i now left → (ports ≡ begun ++ sent) × (missing ≡ []) × (now ≡ Some kept)
    at_end [] (sent_is, ports_are, none, coming) = (ports_are ∙ ap (λ (l : List PortSeat). begun ++ l) (sym (sent_is ∙ append-nil so_far.here)), none, coming.now_is)
    at_end (p ∷ ps) (sent_is, ports_are, none, coming) =
        let wrong : [] ≡ end_of p ∷ ends_of ps = sym (drop_of_length-le numbers past) ∙ coming.named in
        absurd cc

-- no port has strayed
abbrev pub IsWhole : SendRefusal → Type 0
IsWhole Strayed = ⊥
IsWhole _ = Unit {0}

-- a line, and a flight, refuse whole parcels
pub line-whole : (why : PostError) (r : SendRefusal) → r ≡ refusal_of why → IsWhole r
line-whole why.Closed r is = subst IsWhole (sym is) tt
line-whole why.Moving r is = subst IsWhole (sym is) tt
line-whole why.OutOfMemory r is = subst IsWhole (sym is) tt

pub flight-whole : (r : SendRefusal) → IsOfFlight r → IsWhole r
flight-whole OutOfMemory h = tt
flight-whole Taken h = tt
flight-whole Closed h = absurd h
flight-whole Moving h = absurd h
flight-whole Doomed h = absurd h
flight-whole TooManyPorts h = absurd h
flight-whole Strayed h = absurd h

-- the error tells that the very ports came back
gives_whole : (all : List PortSeat) (r : SendRefusal) (parcel : Parcel) (closings : List ClosedPort) → IsWhole r → parcel.ports.items ≡ all → GivesBack all (error_with r parcel closings)
gives_whole all Closed parcel closings whole same = same
gives_whole all Moving parcel closings whole same = same
gives_whole all OutOfMemory parcel closings whole same = same
gives_whole all TooManyPorts parcel closings whole same = same
gives_whole all Taken parcel closings whole same = same
gives_whole all Doomed parcel closings whole same = tt
gives_whole all Strayed parcel closings whole same = absurd whole

-- a parcel was refused, and its ports were called back
pub flown_back : (was now later : Option Flight) (all begun : List PortSeat) (numbers : List EndId) (parcel : Parcel) (r told_as : SendRefusal) → IsWhole r → IfSome was (λ kept. HaveFlownBehind kept all begun now)
    → ((kept : Flight) (sent : List PortSeat) → now ≡ Some (in_flight kept sent) → AreFree kept sent → numbers ≡ ends_of begun ++ ends_of sent → (parcel.ports.items ≡ begun ++ sent) × (parcel.missing.items ≡ []) × (later ≡ Some kept))
    → numbers ≡ ends_of all → (parcel.missing.items ≡ [] → told_as ≡ r) → IfSome was (λ kept. (closings : List ClosedPort) → (later ≡ Some kept) × GivesBack all (error_with told_as parcel closings))
flown_back None now later all begun numbers parcel r told_as of flown called named whole = tt
flown_back (Some kept) now later all begun numbers parcel r told_as of (sent, split, flown) called named whole = λ closings.
    let came = called kept sent flown.now_is flown.free (named ∙ ap ends_of split ∙ map-append end_of begun sent) in
    (came.2, subst (λ (x : SendRefusal). GivesBack all (error_with x parcel closings)) (sym (whole came.1)) (gives_whole all r parcel closings of (came.0 ∙ sym split)))

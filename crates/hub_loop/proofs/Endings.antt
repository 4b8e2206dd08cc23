-- What a loop has is taken out, closed in order and swept, and of its ports the notices are told.
use Rattle.std.proofs.Common.{◌≡◌, ℕ, ◌+◌, ◌<◌, ◌≤◌, cond, List, [], ◌∷◌, ◌++◌, map, length, get_or, sym, ap, ◌∙◌, subst, append_assoc, append-nil, refl, arith, Option, Some, None}
use Rattle.std.specs.List.{count_by, filter_map}
use Rattle.std.specs.List.Sorted.{IsNonDecreasing, IsNonDecreasingBy, IsPermutation}
use Rattle.std.specs.Prelude.{is_some, Result, Ok, Err, OnErr, IfNone, option_to_list}
use Rattle.std.proofs.lemmas.List.{get_or-map, length-map, map-append, map_push}
use Rattle.std.proofs.lemmas.List.Elements.{filter_map-append}
use Rattle.std.proofs.lemmas.List.Sums.{sum_by-cons}
use Rattle.slab.specs.Slab.{Slab, entries, entries_from, slab_len}
use Rattle.hub_queue.specs.Taking.{TakerSeat}
use Rattle.hub_loop.specs.declared.held.Held.{Held}
use Rattle.hub_loop.specs.Ending.{closing_ends, grave_ends, open_ends, swept_ends}
use Rattle.hub_loop.specs.States.{ClosedState, ClosingState, DeliveryState, HoldingState}
use Rattle.hub_clients.specs.declared.handed.HandedQueue.{HandedQueue}
use Rattle.hub_ports.specs.Seats.{PortSeat}
use Rattle.hub_queue.specs.Graves.{GraveSeat, SweptSeat}
use Rattle.hub_ports.specs.declared.closing.ClosedPort.{ClosedPort}
use Rattle.hub_ports.specs.Closing.{IsTold}
use Rattle.hub_loop.specs.Noticing.{open_port, port_numbers, ports_in, AreEnded, NamedBehind, AreTold, NoticesMore}
use Rattle.hub_loop.specs.Looping.{LoopState}
use Rattle.hub_queue.specs.Standing.{StandSeat}
use Rattle.hub_loop.specs.Closing.{IsEndClosed}
use Rattle.hub_loop.specs.Holding.{number_held, seat_of}
use Rattle.hub_loop.specs.declared.closed.ClosedEnd.{ClosedEnd}
use Rattle.hub_loop.specs.declared.held.Held.TheVariants.{Port, Client, Worker, Member, Line}

entries-from : {X : Type 0} (key : ℕ) (slots : List (Option X)) → length (entries_from key slots) ≡ count_by is_some slots
entries-from key [] = refl
entries-from key (None ∷ slots) =
    let rest = entries-from (key + 1) slots in
    let split = sum_by-cons (λ (o : Option _). cond {A = ℕ} (is_some o) 1 0) None slots in
    omega (arith, rest, split)
entries-from key (Some x ∷ slots) =
    let rest = entries-from (key + 1) slots in
    let split = sum_by-cons (λ (o : Option _). cond {A = ℕ} (is_some o) 1 0) (Some x) slots in
    omega (arith, rest, split)

-- so many are held
pub entries_held : {X : Type 0} (slots : Slab X) → length (entries slots) ≡ slab_len slots
entries_held slots = entries-from 0 slots.slots

-- one more of the list was taken
pub next-left : {X : Type 0} (all done rest after : List X) (x : X) → all ≡ done ++ rest → rest ≡ x ∷ after → all ≡ (done ++ x ∷ []) ++ after
next-left all done rest after x split next = split ∙ ap (λ xs. done ++ xs) next ∙ sym (append_assoc done (x ∷ []) after)

-- one more was closed
pub ends-more : (all : List Held) (o : Held) (before between after : List ℕ) → between ≡ before ++ open_ends all → after ≡ between ++ open_ends (o ∷ []) → after ≡ before ++ open_ends (all ++ o ∷ [])
ends-more all o before between after first more =
    more
    ∙ ap (λ ns. ns ++ open_ends (o ∷ [])) first
    ∙ append_assoc before (open_ends all) (open_ends (o ∷ []))
    ∙ ap (λ ns. before ++ ns) (sym (ap (map (λ (t : TakerSeat). t.end)) (filter_map-append seat_of all (o ∷ [])) ∙ map-append (λ (t : TakerSeat). t.end) (filter_map seat_of all) (filter_map seat_of (o ∷ []))))

-- the numbers of what rises by its number rise
pub rises : {X : Type 0} (n : X → ℕ) (xs : List X) → IsNonDecreasingBy n xs → IsNonDecreasing (map n xs)
rises n [] up i j d le less = absurd (omega (arith, less))
rises n (x ∷ xs) up i j d le less =
    let inside : j < length (x ∷ xs) = subst (λ k. j < k) (length-map (x ∷ xs) n) less in
    let first : i < length (x ∷ xs) = omega (arith, le, inside) in
    subst (λ k. k ≤ get_or (map n (x ∷ xs)) j d) (sym (get_or-map n (x ∷ xs) i x d first))
    (subst (λ k. n (get_or (x ∷ xs) i x) ≤ k) (sym (get_or-map n (x ∷ xs) j x d inside)) (up i j x le inside))

-- all was swept
pub all-swept : (c : ClosingState) → c.graves ≡ [] → closing_ends c ≡ swept_ends c.swept
all-swept c none = ap (λ graves. swept_ends c.swept ++ grave_ends graves) none ∙ append-nil (swept_ends c.swept)

-- one more was put at the end of a list that is as it was
pub push-same : {X : Type 0} (old same new : List X) (x : X) → same ≡ old → new ≡ same ++ x ∷ [] → new ≡ old ++ x ∷ []
push-same old same new x is more = more ∙ ap (λ xs. xs ++ x ∷ []) is

-- some ports were closed, and then others
closed-append : (ps qs : List PortSeat) (cs ds : List ClosedPort) → AreTold ps cs → AreTold qs ds → AreTold (ps ++ qs) (cs ++ ds)
closed-append [] qs cs ds first further = subst (λ xs. AreTold qs (xs ++ ds)) (sym first) further
closed-append (p ∷ ps) qs cs ds first further =
    (first.0, first.1 ++ ds, ap (λ xs. xs ++ ds) first.2, first.3, closed-append ps qs first.1 ds first.4 further)

-- no port was closed
pub notices-none : (before after : List ClosedPort) → after ≡ before → NoticesMore [] before after
notices-none before after same = ([], same ∙ sym (append-nil before), refl)

-- one port was closed
pub notices-one : (p : PortSeat) (c : ClosedPort) (before after : List ClosedPort) → after ≡ before ++ c ∷ [] → IsTold p c → NoticesMore (p ∷ []) before after
notices-one p c before after more closed = (c ∷ [], more, (c, [], refl, closed, refl))

pub notices-twice : (ps qs : List PortSeat) (before between after : List ClosedPort) → NoticesMore ps before between → NoticesMore qs between after → NoticesMore (ps ++ qs) before after
notices-twice ps qs before between after first further = (
  first.0 ++ further.0,
  further.1 ∙ ap (λ xs. xs ++ further.0) first.1 ∙ append_assoc before first.0 further.0,
  closed-append ps qs first.0 further.0 first.2 further.2,
)

-- no port was named
pub behind-none : (closed numbers : List ℕ) (before after : List ClosedPort) → numbers ≡ closed → after ≡ before → NamedBehind closed numbers before after
behind-none closed numbers before after is same = ([], is ∙ sym (append-nil closed), notices-none before after same)

-- ports were named, and then others
pub behind-twice : (a b c : List ℕ) (before between after : List ClosedPort) → NamedBehind a b before between → NamedBehind b c between after → NamedBehind a c before after
behind-twice a b c before between after first further = (
  first.0 ++ further.0,
  further.1
      ∙ ap (λ ns. ns ++ port_numbers further.0) first.1
      ∙ append_assoc a (port_numbers first.0) (port_numbers further.0)
      ∙ ap (λ ns. a ++ ns) (sym (map-append (λ (p : PortSeat). p.taker.end) first.0 further.0)),
  notices-twice first.0 further.0 before between after first.2 further.2,
)

-- one more that was named was closed
pub behind-one : (closed swept : List ℕ) (old new : List GraveSeat) (g : GraveSeat) (p : PortSeat) (before between after : List ClosedPort) → NamedBehind closed (swept ++ grave_ends old) before between → new ≡ old ++ g ∷ [] → g.end ≡ p.taker.end → NoticesMore (p ∷ []) between after → NamedBehind closed (swept ++ grave_ends new) before after
behind-one closed swept old new g p before between after first more same told =
    behind-twice closed (swept ++ grave_ends old) (swept ++ grave_ends new) before between after first (
      p ∷ [],
      ap (λ graves. swept ++ grave_ends graves) more
          ∙ ap (λ ends. swept ++ ends) (map_push (λ (h : GraveSeat). h.end) old g)
          ∙ sym (append_assoc swept (grave_ends old) (g.end ∷ []))
          ∙ ap (λ e. (swept ++ grave_ends old) ++ e ∷ []) same,
      told,
    )

-- what is told goes on from what had begun
pub ended-begun : (c : ClosingState) (graves : List GraveSeat) (all : List Held) (before : List ClosedPort) (o : Option ClosingState) → o ≡ Some c → AreEnded o graves all (closing_ends c) before c.noticed
ended-begun c graves all before o is =
    subst (λ (p : Option ClosingState). AreEnded p graves all (closing_ends c) before c.noticed) (sym is) (behind-none (closing_ends c) (closing_ends c) c.noticed c.noticed refl refl)

-- all was taken out and closed, where nothing had begun
pub ended-first : (c : ClosingState) (old mid new last : ClosedState) (all opened sorted : List Held) → c.swept ≡ [] → opened ≡ all → IsPermutation opened sorted → IsNonDecreasingBy (λ one. (number_held one).0) sorted → mid ≡ old → grave_ends new.graves ≡ grave_ends mid.graves ++ open_ends sorted → NoticesMore (ports_in sorted) mid.noticed new.noticed → last ≡ new → IsPermutation (grave_ends last.graves) (grave_ends c.graves) → c.noticed ≡ last.noticed → IsNonDecreasing (grave_ends c.graves) → AreEnded None old.graves all (closing_ends c) old.noticed c.noticed
ended-first c old mid new last all opened sorted none taken moved rises same graves told mine swapped noticed order = (
  sorted,
  grave_ends c.graves,
  c.noticed,
  (
    subst (λ (os : List Held). IsPermutation os sorted) taken moved,
    rises,
    subst (λ (s : ClosedState). NoticesMore (ports_in sorted) s.noticed c.noticed) same
        (subst (NoticesMore (ports_in sorted) mid.noticed) (sym (noticed ∙ ap (λ (s : ClosedState). s.noticed) mine)) told),
  ),
  subst (λ ends. IsPermutation ends (grave_ends c.graves))
      (ap (λ (s : ClosedState). grave_ends s.graves) mine ∙ graves ∙ ap (λ (s : ClosedState). grave_ends s.graves ++ open_ends sorted) same) swapped,
  order,
  behind-none (grave_ends c.graves) (closing_ends c) c.noticed c.noticed (ap (λ swept. swept_ends swept ++ grave_ends c.graves) none) refl,
)

-- more was closed behind
pub ended-further : (o : Option ClosingState) (graves : List GraveSeat) (all : List Held) (first then : List ℕ) (before between after : List ClosedPort) → AreEnded o graves all first before between → NamedBehind first then between after → AreEnded o graves all then before after
ended-further None graves all first then before between after told further =
    (told.0, told.1, told.2, told.3, told.4, told.5, behind-twice told.1 first then told.2 between after told.6 further)
ended-further (Some c) graves all first then before between after told further =
    behind-twice (closing_ends c) first then c.noticed between after told further

-- one more of those that are to be closed was closed
pub told-more : (all : List Held) (o : Held) (before between after : List ClosedPort) → NoticesMore (ports_in all) before between → NoticesMore (ports_in (o ∷ [])) between after → NoticesMore (ports_in (all ++ o ∷ [])) before after
told-more all o before between after first more =
    subst (λ ps. NoticesMore ps before after) (sym (filter_map-append open_port all (o ∷ [])))
    (notices-twice (ports_in all) (ports_in (o ∷ [])) before between after first more)

-- all is as it was
pub same-loop : {H : Type 0} (l : LoopState H) (holding : HoldingState) (kept : Option DeliveryState) (fetched : List HandedQueue) (closing : Option ClosingState) → holding ≡ l.holding → kept ≡ l.kept → fetched ≡ l.fetched → closing ≡ l.closing → record l { holding = holding; kept = kept; fetched = fetched; closing = closing } ≡ l
same-loop l holding kept fetched closing h k f c =
    subst (λ x. record l { holding = x; kept = kept; fetched = fetched; closing = closing } ≡ l) (sym h)
    (subst (λ x. record l { kept = x; fetched = fetched; closing = closing } ≡ l) (sym k)
    (subst (λ x. record l { fetched = x; closing = closing } ≡ l) (sym f)
    (subst (λ x. record l { closing = x } ≡ l) (sym c) refl)))

-- what follows from what is so after an error
pub on-err-then : {A E : Type 0} {P Q : Type 0} (r : Result A E) → OnErr r P → (P → Q) → OnErr r Q
on-err-then (Ok x) holds then = tt
on-err-then (Err x) holds then = then holds

pub on-err : {A E : Type 0} {P : Type 0} (r : Result A E) → P → OnErr r P
on-err (Ok x) holds = tt
on-err (Err x) holds = holds

-- the grave has the number of the end
grave-of : (o : Held) (c : ClosedEnd) → IsEndClosed o c → c.grave.end ∷ [] ≡ open_ends (o ∷ [])
grave-of (Port p) c closed = ap (λ (g : GraveSeat). g.end ∷ []) closed.0
grave-of (Client t) c closed = ap (λ (g : GraveSeat). g.end ∷ []) closed.0
grave-of (Worker t) c closed = ap (λ (g : GraveSeat). g.end ∷ []) closed.0
grave-of (Member m) c closed = ap (λ (g : GraveSeat). g.end ∷ []) closed.0
grave-of (Line s) c closed = absurd closed

-- one grave more
pub buries : (o : Held) (c : ClosedEnd) (before after : List GraveSeat) → IsEndClosed o c → after ≡ before ++ c.grave ∷ [] → grave_ends after ≡ grave_ends before ++ open_ends (o ∷ [])
buries o c before after closed more =
    ap grave_ends more ∙ map_push (λ (g : GraveSeat). g.end) before c.grave ∙ ap (λ ns. grave_ends before ++ ns) (grave-of o c closed)

-- of a port its notice is told
port-closed : (p : PortSeat) (port : Option ClosedPort) (before after : List ClosedPort) → ((told : ClosedPort) × (port ≡ Some told) × IsTold p told) → after ≡ before ++ option_to_list port → NoticesMore (p ∷ []) before after
port-closed p port before after (told, is, closed) more = notices-one p told before after (more ∙ ap (λ o. before ++ option_to_list o) is) closed

-- of any other end nothing is told
alone-closed : (port : Option ClosedPort) (before after : List ClosedPort) → port ≡ None → after ≡ before ++ option_to_list port → NoticesMore [] before after
alone-closed port before after none more = notices-none before after (more ∙ ap (λ o. before ++ option_to_list o) none ∙ append-nil before)

pub notices-closed : (o : Held) (c : ClosedEnd) (before after : List ClosedPort) → IsEndClosed o c → after ≡ before ++ option_to_list c.port → NoticesMore (ports_in (o ∷ [])) before after
notices-closed (Port p) c before after closed more = port-closed p c.port before after closed.1 more
notices-closed (Client t) c before after closed more = alone-closed c.port before after closed.1 more
notices-closed (Worker t) c before after closed more = alone-closed c.port before after closed.1 more
notices-closed (Member m) c before after closed more = alone-closed c.port before after closed.1 more
notices-closed (Line s) c before after closed more = absurd closed

-- the line that comes back was closed to nothing
pub lines-stay : (o : Held) (s : StandSeat) (before : List GraveSeat) → o ≡ Line s → grave_ends before ≡ grave_ends before ++ open_ends (o ∷ [])
lines-stay o s before is = subst (λ x. grave_ends before ≡ grave_ends before ++ open_ends (x ∷ [])) (sym is) (sym (append-nil (grave_ends before)))

pub notices-line : (o : Held) (s : StandSeat) (before after : List ClosedPort) → o ≡ Line s → after ≡ before → NoticesMore (ports_in (o ∷ [])) before after
notices-line o s before after is same = subst (λ x. NoticesMore (ports_in (x ∷ [])) before after) (sym is) (notices-none before after same)

pub if-none : {A : Type 0} {P : Type 0} (r : Option A) → P → IfNone r P
if-none None p = p
if-none (Some x) p = tt

-- the first grave was taken off
pub taken-off : (graves left : List GraveSeat) (popped : Option GraveSeat) (g : GraveSeat) → graves ≡ option_to_list popped ++ left → popped ≡ Some g → grave_ends graves ≡ g.end ∷ grave_ends left
taken-off graves left popped g is some = ap grave_ends (is ∙ ap (λ o. option_to_list o ++ left) some)

-- it was swept: the same ends stand in the same order
pub swept-one : (swept then : List SweptSeat) (graves left : List GraveSeat) (g : GraveSeat) (s : SweptSeat) → grave_ends graves ≡ g.end ∷ grave_ends left → then ≡ swept ++ s ∷ [] → s.end ≡ g.end → swept_ends then ++ grave_ends left ≡ swept_ends swept ++ grave_ends graves
swept-one swept then graves left g s off more same =
    ap (λ ss. swept_ends ss ++ grave_ends left) more
    ∙ ap (λ ns. ns ++ grave_ends left) (map_push (λ (x : SweptSeat). x.end) swept s)
    ∙ append_assoc (swept_ends swept) (s.end ∷ []) (grave_ends left)
    ∙ ap (λ e. swept_ends swept ++ e ∷ grave_ends left) same
    ∙ ap (λ ns. swept_ends swept ++ ns) (sym off)

-- the ends that were swept stand before those that are to be
pub behind-swept : (swept graves then all : List ℕ) (before after : List ClosedPort) → NamedBehind graves then before after → all ≡ swept ++ then → NamedBehind (swept ++ graves) all before after
behind-swept swept graves then all before after behind same = (
  behind.0,
  same ∙ ap (λ ns. swept ++ ns) behind.1 ∙ sym (append_assoc swept graves (port_numbers behind.0)),
  behind.2,
)

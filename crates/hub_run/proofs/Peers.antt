-- The seats of agents at each other's words, one after the other.
use Rattle.std.proofs.Common.{◌≡◌, ◌∙◌, ◌<◌, ◌≤◌, ◌+◌, ℕ, All, List, [], ◌∷◌, ◌++◌, Option, Some, get_or, length, map, suc, take, ap, sym, refl, subst, arith, get_or-set_other, get_or-set_same, slice_set, ⊎_elim}
use Rattle.std.proofs.lemmas.Bool.{cases_lt}
use Rattle.std.proofs.lemmas.List.{take_all, get_or_default, length-append, map-append}
use Rattle.std.proofs.Math.ListN.{get_or-append}
use Rattle.std.proofs.Math.Seq.{get_or-append_seam}
use Rattle.std.specs.Prelude.{option_to_list, AllPairs}
use Rattle.hub_life.specs.OrderSeat.{OrderSeat, new_seat}
use Rattle.std.proofs.Math.Seq.{take-suc}
use Rattle.hub_run.specs.Seats.{AllGet, AreSeated, GetsPeer, IsNewSeat, orders_of}
use Rattle.hub_agent.specs.declared.opening.Seat.{Seat}

pub front_of : {X : Type 0} (P : X → Type 0) (xs ys all : List X) → all ≡ xs ++ ys → All P all → All P xs
front_of P xs ys all is holds = λ k d below.
    let there : k < length all = let h = ap length is in let l = length-append xs ys in omega (arith, h, l, below) in
    subst P (ap (λ l. get_or l k d) is ∙ get_or-append xs ys d k below) (holds k d there)

pub last_of : {X : Type 0} (P : X → Type 0) (xs all : List X) (popped : Option X) (x : X) → all ≡ xs ++ option_to_list popped → popped ≡ Some x → All P all → P x
last_of P xs all popped x is some holds =
    let seam : all ≡ xs ++ x ∷ [] = is ∙ ap (λ o. xs ++ option_to_list o) some in
    let there : length xs < length all = let h = ap length seam in let l = length-append xs (x ∷ []) in omega (arith, h, l) in
    subst P (ap (λ l. get_or l (length xs) x) seam ∙ get_or-append_seam xs x [] x) (holds (length xs) x there)

-- one seat more got it
pub gets_more : (order : OrderSeat) (before seats : List Seat) (place : ℕ) (now r : Seat) → length seats ≡ length before → place < length seats → ((k : ℕ) (d : Seat) → k < place → GetsPeer order (get_or before k d) (get_or seats k d))
    → ((k : ℕ) (d : Seat) → place ≤ k → get_or seats k d ≡ get_or before k d) → GetsPeer order (get_or seats place r) now → (k : ℕ) (d : Seat) → k < place + 1 → GetsPeer order (get_or before k d) (get_or (slice_set seats place now) k d)
gets_more order before seats place now r count inside got same here k d below =
    ⊎_elim
    (λ low. subst (GetsPeer order (get_or before k d)) (sym (get_or-set_other seats place k now d (λ is. absurd (omega (arith, low, is))))) (got k d low))
    (λ high.
    let is : place ≡ k = omega (arith, high, below) in
    subst (λ j. GetsPeer order (get_or before j d) (get_or (slice_set seats place now) j d)) is
    (subst (GetsPeer order (get_or before place d)) (sym (get_or-set_same seats place now d inside))
    (subst (λ (s : Seat). GetsPeer order s now) (get_or_default seats place r d inside ∙ same place d (omega arith)) here)))
    (cases_lt k place)

-- those before the last two are at the word of the last but one
pub orders_left : (all front xs : List OrderSeat) (a b : OrderSeat) (popped then : Option OrderSeat) → all ≡ front ++ option_to_list popped → popped ≡ Some b → front ≡ xs ++ option_to_list then → then ≡ Some a
    → All (λ (o : OrderSeat). o ≡ new_seat o.word) all → AllPairs (λ (o p : OrderSeat). o.word ≡ p.word) all → All (λ (o : OrderSeat). o ≡ a) xs
orders_left all front xs a b popped then is some more other new same = λ k d below.
    let first : front ≡ xs ++ a ∷ [] = more ∙ ap (λ o. xs ++ option_to_list o) other in
    let whole : all ≡ (xs ++ a ∷ []) ++ b ∷ [] = is ∙ ap (λ o. front ++ option_to_list o) some ∙ ap (λ l. l ++ b ∷ []) first in
    let short = length-append xs (a ∷ []) in
    let long = ap length whole in
    let longer = length-append (xs ++ a ∷ []) (b ∷ []) in
    let inside : k < length (xs ++ a ∷ []) = omega (arith, short, below) in
    let there : k < length all = omega (arith, short, long, longer, below) in
    let last : length xs < length all = omega (arith, short, long, longer) in
    let at_k : get_or all k d ≡ get_or xs k d = ap (λ l. get_or l k d) whole ∙ get_or-append (xs ++ a ∷ []) (b ∷ []) d k inside ∙ get_or-append xs (a ∷ []) d k below in
    let at_last : get_or all (length xs) d ≡ a = ap (λ l. get_or l (length xs) d) whole ∙ get_or-append (xs ++ a ∷ []) (b ∷ []) d (length xs) (omega (arith, short)) ∙ get_or-append_seam xs a [] d in
    let word : (get_or xs k d).word ≡ a.word = sym (ap (λ (o : OrderSeat). o.word) at_k) ∙ same k (length xs) d below last ∙ ap (λ (o : OrderSeat). o.word) at_last in
    subst (λ (o : OrderSeat). o ≡ new_seat o.word) at_k (new k d there) ∙ ap new_seat word ∙ sym (subst (λ (o : OrderSeat). o ≡ new_seat o.word) at_last (new (length xs) d last))

-- the last two are at one word, and nothing was done at them
pub both_seats : (all front xs : List OrderSeat) (a b : OrderSeat) (popped then : Option OrderSeat) → all ≡ front ++ option_to_list popped → popped ≡ Some b → front ≡ xs ++ option_to_list then → then ≡ Some a
    → All (λ (o : OrderSeat). o ≡ new_seat o.word) all → AllPairs (λ (o p : OrderSeat). o.word ≡ p.word) all → (a ≡ new_seat a.word) × (b ≡ a)
both_seats all front xs a b popped then is some more other new same =
    let b_new = last_of (λ (o : OrderSeat). o ≡ new_seat o.word) front all popped b is some new in
    let a_new = last_of (λ (o : OrderSeat). o ≡ new_seat o.word) xs front then a more other (front_of (λ (o : OrderSeat). o ≡ new_seat o.word) front (option_to_list popped) all is new) in
    let first : front ≡ xs ++ a ∷ [] = more ∙ ap (λ o. xs ++ option_to_list o) other in
    let whole : all ≡ front ++ b ∷ [] = is ∙ ap (λ o. front ++ option_to_list o) some in
    let short = ap length first ∙ length-append xs (a ∷ []) in
    let long = ap length whole ∙ length-append front (b ∷ []) in
    let before : length xs < length front = omega (arith, short) in
    let last : length front < length all = omega (arith, long) in
    let at_a : get_or all (length xs) a ≡ a = ap (λ l. get_or l (length xs) a) whole ∙ get_or-append front (b ∷ []) a (length xs) before ∙ ap (λ l. get_or l (length xs) a) first ∙ get_or-append_seam xs a [] a in
    let at_b : get_or all (length front) a ≡ b = ap (λ l. get_or l (length front) a) whole ∙ get_or-append_seam front b [] a in
    let word : b.word ≡ a.word = sym (ap (λ (o : OrderSeat). o.word) at_b) ∙ sym (same (length xs) (length front) a before last) ∙ ap (λ (o : OrderSeat). o.word) at_a in
    (a_new, b_new ∙ ap new_seat word ∙ sym a_new)

got_same : (opened now new : Seat) → now ≡ record opened { peers = now.peers } → new ≡ record now { peers = new.peers } → new ≡ record opened { peers = new.peers }
got_same opened now new first then = then ∙ ap (λ (s : Seat). record s { peers = new.peers }) first

-- The seats are those that were opened, each with seats at the orders of the first so many of them.
pub record HavePeers (done : ℕ) (opened now : List Seat) : Type 0 where
  pub count : length now ≡ length opened
  pub same : (k : ℕ) (d : Seat) → k < length opened → get_or now k d ≡ record (get_or opened k d) { peers = (get_or now k d).peers }
  pub peers : (k : ℕ) (d : Seat) → k < length opened → orders_of (get_or now k d).peers.items ≡ map (λ s. s.for_agent) (take done opened)

-- one more of a list whose elements are so by their places
pub placed_more : {X : Type 0} (P : ℕ → X → Type 0) (xs new : List X) (x : X) → new ≡ xs ++ x ∷ [] → ((k : ℕ) (d : X) → k < length xs → P k (get_or xs k d)) → P (length xs) x → (k : ℕ) (d : X) → k < length new → P k (get_or new k d)
placed_more P xs new x is all here k d below =
    let long = ap length is in
    let longer = length-append xs (x ∷ []) in
    subst (λ l. P k (get_or l k d)) (sym is)
    (⊎_elim
    (λ low. subst (P k) (sym (get_or-append xs (x ∷ []) d k low)) (all k d low))
    (λ high.
    let last : length xs ≡ k = omega (arith, high, below, long, longer) in
    subst (λ j. P j (get_or (xs ++ x ∷ []) j d)) last (subst (P (length xs)) (sym (get_or-append_seam xs x [] d)) here))
    (cases_lt k (length xs)))

-- What stands in one list is paired with what stands in another, from that place on.
abbrev pub Pairs : {X Y : Type 0} → (X → Y → Type 0) → ℕ → List X → List Y → Type 0
Pairs {X} {Y} R from xs ys = (k : ℕ) (d : X) (e : Y) → k < length ys → R (get_or xs (from + k) d) (get_or ys k e)

pub pairs_more : {X Y : Type 0} (R : X → Y → Type 0) (xs new : List X) (ys more : List Y) (x : X) (y : Y) → new ≡ xs ++ x ∷ [] → more ≡ ys ++ y ∷ [] → length ys ≡ length xs → Pairs R 0 xs ys → R x y → Pairs R 0 new more
pairs_more {X} {Y} R xs new ys more x y is then count pairs here = λ k d e below.
    let long = ap length then in
    let longer = length-append ys (y ∷ []) in
    let same : k ≡ 0 + k = omega arith in
    subst (λ j. R (get_or new j d) (get_or more k e)) same
    (subst (λ l. R (get_or l k d) (get_or more k e)) (sym is)
    (subst (λ l. R (get_or (xs ++ x ∷ []) k d) (get_or l k e)) (sym then)
    (⊎_elim
    (λ low.
    let inside : k < length xs = omega (arith, low, count) in
    subst (λ z. R z (get_or (ys ++ y ∷ []) k e)) (sym (get_or-append xs (x ∷ []) d k inside))
    (subst (λ z. R (get_or xs k d) z) (sym (get_or-append ys (y ∷ []) e k low)) (subst (λ j. R (get_or xs j d) (get_or ys k e)) (sym same) (pairs k d e low))))
    (λ high.
    let last : length ys ≡ k = omega (arith, high, below, long, longer) in
    let also : length xs ≡ k = omega (arith, last, count) in
    subst (λ z. R z (get_or (ys ++ y ∷ []) k e)) (sym (ap (λ j. get_or (xs ++ x ∷ []) j d) (sym also) ∙ get_or-append_seam xs x [] d))
    (subst (λ z. R x z) (sym (ap (λ j. get_or (ys ++ y ∷ []) j e) (sym last) ∙ get_or-append_seam ys y [] e)) here))
    (cases_lt k (length ys)))))

pub pairs_first : {X Y : Type 0} (R : X → Y → Type 0) (from : ℕ) (xs : List X) (ys rest : List Y) (y : Y) → ys ≡ y ∷ rest → Pairs R from xs ys → (d : X) → R (get_or xs from d) y
pairs_first R from xs ys rest y is pairs d =
    let there : from + 0 ≡ from = omega arith in
    subst (λ j. R (get_or xs j d) y) there (subst (Pairs R from xs) is pairs 0 d y (omega arith))

pub pairs_rest : {X Y : Type 0} (R : X → Y → Type 0) (from : ℕ) (xs : List X) (ys rest : List Y) (y : Y) → ys ≡ y ∷ rest → Pairs R from xs ys → Pairs R (from + 1) xs rest
pairs_rest R from xs ys rest y is pairs = λ k d e below.
    let next : from + suc k ≡ from + 1 + k = omega arith in
    subst (λ j. R (get_or xs j d) (get_or rest k e)) next (subst (Pairs R from xs) is pairs (suc k) d e (omega (arith, below)))

-- one of a list
pub some_of : {X : Type 0} (xs : List X) (k : ℕ) → k < length xs → X
some_of [] k inside = absurd (omega (arith, inside))
some_of (x ∷ xs) k inside = x

-- the seats have no peers yet
pub no_peers : (opened : List Seat) → ((k : ℕ) (d : Seat) → k < length opened → IsNewSeat k (get_or opened k d)) → HavePeers 0 opened opened
no_peers opened new = record { count = refl; same = λ k d below. refl; peers = λ k d below. ap orders_of (new k d below).peers }

-- one peer more
pub peers_more : (done : ℕ) (opened now new : List Seat) (d : Seat) → HavePeers done opened now → done < length opened → AllGet (get_or opened done d).for_agent now new → HavePeers (done + 1) opened new
peers_more done opened now new d was inside got = record {
  count = got.0 ∙ was.count;
  same = λ k e below.
      let there : k < length now = let h = was.count in omega (arith, h, below) in
      got_same (get_or opened k e) (get_or now k e) (get_or new k e) (was.same k e below) (got.1 k e there).0;
  peers = λ k e below.
      let there : k < length now = let h = was.count in omega (arith, h, below) in
      let next : done + 1 ≡ suc done = omega arith in
      (got.1 k e there).1 ∙ ap (λ orders. orders ++ (get_or opened done d).for_agent ∷ []) (was.peers k e below)
      ∙ sym (ap (λ n. map (λ (s : Seat). s.for_agent) (take n opened)) next ∙ ap (map (λ (s : Seat). s.for_agent)) (take-suc opened done d inside) ∙ map-append (λ (s : Seat). s.for_agent) (take done opened) (get_or opened done d ∷ []));
}

-- one list is the other, as its elements are
pub map_as : {X Y : Type 0} (f g : X → Y) (xs ys : List X) → length xs ≡ length ys → ((k : ℕ) (d : X) → k < length xs → f (get_or xs k d) ≡ g (get_or ys k d)) → map f xs ≡ map g ys
map_as f g [] [] count same = refl
map_as f g [] (y ∷ ys) count same = absurd (omega (arith, count))
map_as f g (x ∷ xs) [] count same = absurd (omega (arith, count))
map_as f g (x ∷ xs) (y ∷ ys) count same =
    let first : f x ≡ g y = same 0 x (omega arith) in
    let rest = map_as f g xs ys (omega (arith, count)) (λ k d below. same (suc k) d (omega (arith, below))) in
    ap (λ z. z ∷ map f xs) first ∙ ap (λ zs. g y ∷ zs) rest

-- each has a seat at the order of each
pub all_seated : (done : ℕ) (opened now : List Seat) → done ≡ length opened → ((k : ℕ) (d : Seat) → k < length opened → IsNewSeat k (get_or opened k d)) → HavePeers done opened now → AreSeated now
all_seated done opened now all new was = λ k d below.
    let there : k < length opened = let h = was.count in omega (arith, h, below) in
    let is = was.same k d there in
    let first = new k d there in
    let agent : (get_or now k d).for_agent ≡ (get_or opened k d).for_agent = ap (λ (s : Seat). s.for_agent) is in
    record {
      number_is = ap (λ (s : Seat). s.number.0) is ∙ first.number_is;
      for_agent = agent ∙ first.for_agent ∙ ap (λ (o : OrderSeat). new_seat o.word) (sym agent);
      for_loop = ap (λ (s : Seat). s.for_loop) is ∙ first.for_loop ∙ sym agent;
      peers = was.peers k d there ∙ ap (map (λ (s : Seat). s.for_agent)) (take_all done opened (omega (arith, all)))
          ∙ sym (map_as (λ (s : Seat). s.for_agent) (λ (s : Seat). s.for_agent) now opened was.count (λ j e low. ap (λ (s : Seat). s.for_agent) (was.same j e (let h = was.count in omega (arith, h, low)))));
    }

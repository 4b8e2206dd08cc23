-- One pass over what happened, by rising ends, gives what was got at each end.
use Rattle.std.proofs.Common.{◌≡◌, ℕ, suc, ◌<◌, ◌≤◌, ◌+◌, Bool, true, false, cond, List, [], ◌∷◌, ◌++◌, Option, Some, None, IfSome, map, length, get_or, drop, refl, ap, sym, ◌∙◌, subst, arith, ◌==◌, append_assoc, Bor, option_map, nat_eq, drop-cons}
use Rattle.std.specs.List.{filter}
use Rattle.std.proofs.lemmas.Bool.Decides.{nat_tests}
use Rattle.std.proofs.lemmas.List.Elements.{filter-append}
use Rattle.std.proofs.lemmas.List.{get_or_default, map-append}
use Rattle.std.specs.Option.{option_eq}
use Rattle.std.proofs.lemmas.Map.Views.{exact_unsigned_eq}
use Rattle.hub_trace.specs.declared.log_entry.Delivery.{Delivery}
use Rattle.hub_trace.specs.declared.received.Happening.{Happening}
use Rattle.hub_trace.specs.declared.received.Incoming.{Incoming}
use Rattle.hub_trace.specs.Got.{EndEvent, Receipt, receipt, receipts, is_closed_after}
use Rattle.hub_trace.specs.Views.{IsOwn, RisesByEnd, end_event_of, receipt_of, end_events_in, receipts_in, is_closed}
use Rattle.hub_trace.proofs.Cases.{by_test}
use Rattle.hub_trace.proofs.Lines.{filter_none, rest_each}

pub drop_here : {X : Type 0} (xs : List X) (i : ℕ) (x : X) → i < length xs → x ≡ get_or xs i x → drop i xs ≡ x ∷ drop (i + 1) xs
drop_here xs i x lt is =
    let next : suc i ≡ i + 1 = omega arith in
    drop-cons xs i x lt ∙ (λ k. sym is k ∷ drop (next k) xs)

same_when_none : (c : Bool) (es : List EndEvent) → (c ≡ true → es ≡ []) → receipts c es ≡ receipts false es
same_when_none true es none = ap (receipts true) (none refl) ∙ sym (ap (receipts false) (none refl))
same_when_none false es none = refl

-- a closing closes its own end, and matters to no other
closing_step : (h : Happening) (hs : List Happening) (c : Bool) (end : ℕ) → h.got ≡ None
    → (c ≡ true → (h.end.0 == end) ≡ false → end_events_in hs end ≡ [])
    → receipts c (end_events_in (h ∷ hs) end) ≡ receipts (h.end.0 == end) (end_events_in hs end)
closing_step h hs c end none over =
    let rest = map end_event_of (filter (λ x. x.end.0 == end) hs) in
    by_test (λ b. receipts c (map end_event_of (cond b (h ∷ filter (λ x. x.end.0 == end) hs) (filter (λ x. x.end.0 == end) hs))) ≡ receipts b rest) (h.end.0 == end)
    (λ _ i. receipt c (option_map (λ d. d.now) (none i)) ++ receipts (is_closed_after c (option_map (λ d. d.now) (none i))) rest)
    (λ t. same_when_none c rest (λ e. over e t))

-- what was got goes to its own end
got_step : (h : Happening) (hs : List Happening) (c : Bool) (end : ℕ) (a : Incoming) (d : Bor Delivery) → h.got ≡ Some d
    → a.posted ≡ d.now.posted → a.content.now ≡ d.now.content → ((h.end.0 == end) ≡ true → a.late ≡ c) → d.now.posted.end.0 ≡ h.end.0
    → receipts c (end_events_in (h ∷ hs) end) ≡ receipts_in (a ∷ []) end ++ receipts c (end_events_in hs end)
got_step h hs c end a d got names contents late own =
    let rest = map end_event_of (filter (λ x. x.end.0 == end) hs) in
    let at : h.end.0 ≡ a.posted.end.0 = sym own ∙ ap (λ l. l.end.0) (sym names) in
    by_test (λ b. receipts c (map end_event_of (cond b (h ∷ filter (λ x. x.end.0 == end) hs) (filter (λ x. x.end.0 == end) hs))) ≡ map receipt_of (cond b (a ∷ []) []) ++ receipts c rest) (h.end.0 == end)
    (λ t. (λ i. receipt c (option_map (λ d. d.now) (got i)) ++ receipts (is_closed_after c (option_map (λ d. d.now) (got i))) rest)
    ∙ (λ i. record { delivery = record { posted = sym names i; content = sym contents i }; late = sym (late t) i } ∷ receipts c rest))
    (λ _. refl)
    ∙ (λ i. map receipt_of (cond (at i == end) (a ∷ []) []) ++ receipts c rest)

receipts_in-append : (xs ys : List Incoming) (end : ℕ) → receipts_in (xs ++ ys) end ≡ receipts_in xs end ++ receipts_in ys end
receipts_in-append xs ys end = ap (map receipt_of) (filter-append (λ a. a.posted.end.0 == end) xs ys) ∙ map-append receipt_of (filter (λ a. a.posted.end.0 == end) xs) (filter (λ a. a.posted.end.0 == end) ys)

differs : (x y z : ℕ) → x ≤ y → y ≤ z → (y == x) ≡ false → (z == x) ≡ false
differs x y z h k t = grind (arith, nat_tests)

-- the ends of what is to come
abbrev pub Passed : List Happening → ℕ → Option ℕ → Type 0
Passed xs i closed = IfSome closed (λ x. (k : ℕ) (d : Happening) → i ≤ k → k < length xs → x ≤ (get_or xs k d).end.0)

-- once another end comes, nothing comes of the end that was closed
over : (xs : List Happening) (i : ℕ) (h : Happening) (closed : Option ℕ) → i < length xs → h ≡ get_or xs i h → RisesByEnd xs → Passed xs i closed
    → (end : ℕ) → is_closed closed end ≡ true → (h.end.0 == end) ≡ false → end_events_in (drop (i + 1) xs) end ≡ []
over xs i h None lt is rises passed end c t = cc
over xs i h (Some x) lt is rises passed end c t =
    let one : x ≡ end = exact_unsigned_eq x end c in
    ap (map end_event_of) (filter_none (λ y. y.end.0 == end) (drop (i + 1) xs) (rest_each (λ y. (y.end.0 == end) ≡ false) xs (i + 1) (omega arith) (λ k d lo hi.
    let at : (get_or xs i d).end.0 ≡ h.end.0 = ap (λ y. y.end.0) (get_or_default xs i d h lt ∙ sym is) in
    let le : h.end.0 ≤ (get_or xs k d).end.0 = omega (arith, rises i k d (omega arith) hi, at) in
    let ge : end ≤ h.end.0 = omega (arith, passed i d (omega arith) lt, at, one) in
    differs end h.end.0 (get_or xs k d).end.0 ge le t)))

pub passed_closing : (xs : List Happening) (i : ℕ) (h : Happening) → i < length xs → h ≡ get_or xs i h → RisesByEnd xs → Passed xs (i + 1) (Some h.end.0)
passed_closing xs i h lt is rises k d lo hi =
    let at : (get_or xs i d).end.0 ≡ h.end.0 = ap (λ y. y.end.0) (get_or_default xs i d h lt ∙ sym is) in
    omega (arith, rises i k d (omega arith) hi, at)

pub passed_on : (xs : List Happening) (i : ℕ) (closed : Option ℕ) → Passed xs i closed → Passed xs (i + 1) closed
passed_on xs i None h = tt
passed_on xs i (Some x) h = λ k d lo hi. h k d (omega arith) hi

pub told_closing : (xs : List Happening) (i : ℕ) (h : Happening) (closed : Option ℕ) (done : List Receipt) (end : ℕ) → i < length xs → h ≡ get_or xs i h → RisesByEnd xs → Passed xs i closed
    → h.got ≡ None → done ++ receipts (is_closed closed end) (end_events_in (drop i xs) end) ≡ receipts false (end_events_in xs end)
    → done ++ receipts (h.end.0 == end) (end_events_in (drop (i + 1) xs) end) ≡ receipts false (end_events_in xs end)
told_closing xs i h closed done end lt is rises passed none told =
    ap (λ l. done ++ l) (sym (closing_step h (drop (i + 1) xs) (is_closed closed end) end none (over xs i h closed lt is rises passed end))
    ∙ ap (λ l. receipts (is_closed closed end) (end_events_in l end)) (sym (drop_here xs i h lt is))) ∙ told

late_is : (closed : Option ℕ) (n end : ℕ) (r : Bool) → r ≡ option_eq nat_eq closed (Some n) → (n == end) ≡ true → r ≡ is_closed closed end
late_is None n end r is t = is
late_is (Some x) n end r is t = is ∙ ap (λ m. x == m) (exact_unsigned_eq n end t)

pub told_got : (xs : List Happening) (i : ℕ) (h : Happening) (closed : Option ℕ) (arrivals : List Incoming) (a : Incoming) (d : Bor Delivery) (end : ℕ) → i < length xs → h ≡ get_or xs i h
    → h.got ≡ Some d → a.posted ≡ d.now.posted → a.content.now ≡ d.now.content → a.late ≡ option_eq nat_eq closed (Some h.end.0) → IsOwn h
    → receipts_in arrivals end ++ receipts (is_closed closed end) (end_events_in (drop i xs) end) ≡ receipts false (end_events_in xs end)
    → receipts_in (arrivals ++ a ∷ []) end ++ receipts (is_closed closed end) (end_events_in (drop (i + 1) xs) end) ≡ receipts false (end_events_in xs end)
told_got xs i h closed arrivals a d end lt is got names contents late own told =
    let c = is_closed closed end in
    let own_end : d.now.posted.end.0 ≡ h.end.0 = subst (λ (o : Option (Bor Delivery)). IfSome o (λ x. x.now.posted.end.0 ≡ h.end.0)) got own in
    ap (λ l. l ++ receipts c (end_events_in (drop (i + 1) xs) end)) (receipts_in-append arrivals (a ∷ []) end)
    ∙ append_assoc (receipts_in arrivals end) (receipts_in (a ∷ []) end) (receipts c (end_events_in (drop (i + 1) xs) end))
    ∙ ap (λ l. receipts_in arrivals end ++ l) (sym (got_step h (drop (i + 1) xs) c end a d got names contents (late_is closed h.end.0 end a.late late) own_end)
    ∙ ap (λ l. receipts c (end_events_in l end)) (sym (drop_here xs i h lt is)))
    ∙ told

-- What was got of one line, against what was accepted there.
use Rattle.std.proofs.Common.{◌≡◌, ℕ, suc, zero, ◌<◌, ◌≤◌, ◌+◌, ◌⊎◌, inl, inr, Bool, true, false, ◌&&◌, ◌||◌, List, [], ◌∷◌, ◌++◌, Some, None, map, length, length-take, get_or, take, refl, ap, sym, ◌∙◌, subst, slice_get, arith, ◌==◌, nat_lt, option_map}
use Rattle.std.specs.List.{filter, list_any, AllByRecursion as Each}
use Rattle.std.proofs.lemmas.Bool.Decides.{nat_tests}
use Rattle.std.proofs.lemmas.List.Elements.{All-nil, All-cons, All-head, All-tail, filter-append, recursion_from_All}
use Rattle.hub_trace.specs.declared.log_entry.Delivery.{Delivery}
use Rattle.hub_trace.specs.declared.accepted.AcceptedEnvelope.{AcceptedEnvelope}
use Rattle.hub_trace.specs.declared.received.Incoming.{Incoming}
use Rattle.hub_trace.specs.Accepted.{is_of}
use Rattle.hub_trace.specs.Got.{Receipt}
use Rattle.hub_trace.specs.Clean.{IsCleanLine, IsInTime, IsNoticeLast, IsPrefix}
use Rattle.hub_trace.specs.Content.{is_notice}
use Rattle.hub_trace.specs.Fault.{IsRight, IsFirstFault, has_notice}
use Rattle.hub_trace.specs.Verdict.{IsLineBefore}
use Rattle.hub_trace.specs.Views.{RisesByLine, accepted_in, got_among, receipt_of, is_before}
use Rattle.hub_trace.proofs.Cases.{by_test}
use Rattle.hub_trace.proofs.Order.{Each-passes, Each-weaker}
use Rattle.hub_trace.proofs.Lines.{filter_none, filter_all}
use Rattle.hub_trace.proofs.PortLists.{first_no, second_no}
use Rattle.std.proofs.lemmas.List.{get_or_default, get_or-take, length-map}
use Rattle.std.proofs.lemmas.Option.{slice_get-map, slice_get-get_or, slice_get_past}
use Rattle.std.proofs.lemmas.Map.Views.{exact_unsigned_eq}

abbrev pub AllRight : List Delivery → List Receipt → Type 0
AllRight put rs = (k : ℕ) (r : Receipt) → slice_get rs k ≡ Some r → IsRight put (has_notice (take k rs)) k r

-- ---- notices

no_notice : (rs : List Receipt) (i : ℕ) (d : Receipt) → has_notice rs ≡ false → i < length rs → is_notice (get_or rs i d).delivery.content ≡ false
no_notice [] i d h lt = absurd (omega arith)
no_notice (r ∷ rs) zero d h lt = first_no (is_notice r.delivery.content) (has_notice rs) h
no_notice (r ∷ rs) (suc i) d h lt = no_notice rs i d (second_no (is_notice r.delivery.content) (has_notice rs) h) (omega arith)

none_noticed : (rs : List Receipt) → ((i : ℕ) (d : Receipt) → i < length rs → is_notice (get_or rs i d).delivery.content ≡ false) → has_notice rs ≡ false
none_noticed [] h = refl
none_noticed (r ∷ rs) h = ap (λ b. b || has_notice rs) (h 0 r (omega arith)) ∙ none_noticed rs (λ i d lt. h (suc i) d (omega arith))

notice_last : (put : List Delivery) (rs : List Receipt) → AllRight put rs → IsNoticeLast rs
notice_last put rs h i j d lt below =
    let later = get_or rs j d in
    let found : slice_get rs j ≡ Some later = slice_get-get_or rs j d below in
    let right = h j later found in
    let none : has_notice (take j rs) ≡ false = right.1 in
    let here : i < length (take j rs) = omega (arith, length-take j rs) in
    ap (λ (r : Receipt). is_notice r.delivery.content) (sym (get_or-take j rs i d lt)) ∙ no_notice (take j rs) i d none here

before_none : (rs : List Receipt) (k : ℕ) → k < length rs → IsNoticeLast rs → has_notice (take k rs) ≡ false
before_none rs k below last = none_noticed (take k rs) (λ i d lt.
    let under : i < k = omega (arith, length-take k rs) in
    ap (λ (r : Receipt). is_notice r.delivery.content) (get_or-take k rs i d under) ∙ last i k d under below)

found_below : (rs : List Receipt) (k : ℕ) (r : Receipt) → slice_get rs k ≡ Some r → k < length rs
found_below rs k r at =
    by_test (λ b. nat_lt k (length rs) ≡ b → k < length rs) (nat_lt k (length rs))
    (λ _ t. grind (arith, nat_tests))
    (λ _ t. let past : length rs ≤ k = grind (arith, nat_tests) in let none : None ≡ Some r = sym (slice_get_past rs k past) ∙ at in cc)
    refl

-- ---- a clean line is one in which all is right

-- what was got in time, and is what was accepted at its place
abbrev IsAccepted : List Delivery → ℕ → Receipt → Type 0
IsAccepted put place r = (r.late ≡ false) × (slice_get put place ≡ Some r.delivery)

abbrev AllAccepted : List Delivery → List Receipt → Type 0
AllAccepted put rs = (k : ℕ) (r : Receipt) → slice_get rs k ≡ Some r → IsAccepted put k r

prefix_from_accepted : (put : List Delivery) (rs : List Receipt) → AllAccepted put rs → IsPrefix rs put × IsInTime rs
prefix_from_accepted put [] h = ((put, refl), All-nil (λ r. r.late ≡ false))
prefix_from_accepted [] (r ∷ rs) h = let e : None ≡ Some r.delivery = (h 0 r refl).1 in cc
prefix_from_accepted (d ∷ put) (r ∷ rs) h =
    let first = h 0 r refl in
    let same : Some d ≡ Some r.delivery = first.1 in
    let one : d ≡ r.delivery = cc in
    let rest = prefix_from_accepted put rs (λ k q e. h (suc k) q e) in
    ((rest.0.0, (λ i. one i ∷ rest.0.1 i)), All-cons (λ q. q.late ≡ false) r rs first.0 rest.1)

accepted_from_prefix : (put : List Delivery) (rs : List Receipt) → IsPrefix rs put → IsInTime rs → AllAccepted put rs
accepted_from_prefix put [] p h k r e = let x : None ≡ Some r = e in cc
accepted_from_prefix put (q ∷ rs) p h zero r e =
    let same : Some q ≡ Some r = e in
    let one : q ≡ r = cc in
    subst (IsAccepted put 0) one (All-head (λ x. x.late ≡ false) q rs h, ap (λ l. slice_get l 0) p.1)
accepted_from_prefix [] (q ∷ rs) p h (suc k) r e = let x : [] ≡ q.delivery ∷ (map (λ r. r.delivery) rs ++ p.0) = p.1 in cc
accepted_from_prefix (d ∷ put) (q ∷ rs) p h (suc k) r e =
    let whole : d ∷ put ≡ q.delivery ∷ (map (λ r. r.delivery) rs ++ p.0) = p.1 in
    let tails : put ≡ map (λ r. r.delivery) rs ++ p.0 = cc in
    accepted_from_prefix put rs (p.0, tails) (All-tail (λ x. x.late ≡ false) q rs h) k r e

pub clean_from_right : (put : List Delivery) (rs : List Receipt) → AllRight put rs → IsCleanLine put rs
clean_from_right put rs h =
    let front = prefix_from_accepted put rs (λ k r at. let right = h k r at in (right.0, right.2)) in
    (front.0, front.1, notice_last put rs h)

pub right_from_clean : (put : List Delivery) (rs : List Receipt) → IsCleanLine put rs → AllRight put rs
right_from_clean put rs h k r at =
    let here = accepted_from_prefix put rs h.0 h.1 k r at in
    (here.0, before_none rs k (found_below rs k r at) h.2, here.1)

pub fault_is_not_clean : {put : List Delivery} {rs : List Receipt} {place : ℕ} {kind : _} → IsFirstFault put rs place kind → IsCleanLine put rs → ⊥
fault_is_not_clean {put} {rs} {place} f clean = f.wrong (right_from_clean put rs clean place f.receipt f.at)

no_two : IsNoticeLast []
no_two i j d lt below = absurd (omega arith)

pub nothing_is_clean : (put : List Delivery) (rs : List Receipt) → rs ≡ [] → IsCleanLine put rs
nothing_is_clean put rs e = subst (IsCleanLine put) (sym e) ((put, refl), All-nil (λ r. r.late ≡ false), no_two)

-- of a line either all is left, or nothing, and then it is clean
abbrev pub IsLeft : List AcceptedEnvelope → List Incoming → List Incoming → ℕ → ℕ → Type 0
IsLeft accepted arrivals rest end line =
    (got_among rest end line ≡ got_among arrivals end line)
    ⊎ (IsCleanLine (accepted_in accepted end line) (got_among arrivals end line) × (filter (λ a. is_of end line a.posted) rest ≡ []))

pub other_line : (a b e l x y : ℕ) → ((a == e) && (b == l)) ≡ true → ((e == x) && (l == y)) ≡ false → ((a == x) && (b == y)) ≡ false
other_line a b e l x y h k = grind (arith, nat_tests)

pub same_line : (e l x y : ℕ) → ((e == x) && (l == y)) ≡ true → (e ≡ x) × (l ≡ y)
same_line e l x y h = grind (arith, nat_tests)

append_nil_right : {X : Type 0} (xs ys : List X) → xs ++ ys ≡ [] → ys ≡ []
append_nil_right [] ys h = h
append_nil_right (x ∷ xs) ys h = cc

pub self_append : {X : Type 0} (xs ys : List X) → xs ≡ xs ++ ys → ys ≡ []
self_append [] ys h = sym h
self_append (x ∷ xs) ys h = let whole : x ∷ xs ≡ x ∷ (xs ++ ys) = h in let tails : xs ≡ xs ++ ys = cc in self_append xs ys tails

-- a front of the rest that is one line, and is clean, is done with
step_by : (accepted : List AcceptedEnvelope) (arrivals rest front after : List Incoming) (end line : ℕ)
    → front ≡ filter (λ a. is_of end line a.posted) rest
    → IsCleanLine (accepted_in accepted end line) (map receipt_of front)
    → (x y : ℕ) → filter (λ a. is_of x y a.posted) rest ≡ filter (λ a. is_of x y a.posted) front ++ filter (λ a. is_of x y a.posted) after
    → (t : Bool) → ((end == x) && (line == y)) ≡ t
    → IsLeft accepted arrivals rest x y → IsLeft accepted arrivals after x y
step_by accepted arrivals rest front after end line picked clean x y split t test (inr done) =
    inr (done.0, append_nil_right (filter (λ a. is_of x y a.posted) front) (filter (λ a. is_of x y a.posted) after) (sym split ∙ done.1))
step_by accepted arrivals rest front after end line picked clean x y split false test (inl same) =
    let at_end_line : Each (λ a. is_of end line a.posted ≡ true) front = subst (Each (λ a. is_of end line a.posted ≡ true)) (sym picked) (Each-passes (λ a. is_of end line a.posted) rest) in
    let none = filter_none (λ a. is_of x y a.posted) front (Each-weaker (λ a. is_of end line a.posted ≡ true) (λ a. is_of x y a.posted ≡ false) (λ a h. other_line a.posted.end.0 a.posted.line.0 end line x y h test) front at_end_line) in
    inl (ap (map receipt_of) (sym (split ∙ ap (λ l. l ++ filter (λ a. is_of x y a.posted) after) none)) ∙ same)
step_by accepted arrivals rest front after end line picked clean x y split true test (inl same) =
    let at = same_line end line x y test in
    let here : front ≡ filter (λ a. is_of x y a.posted) rest = picked ∙ (λ i. filter (λ a. is_of (at.0 i) (at.1 i) a.posted) rest) in
    let at_end_line : Each (λ a. is_of x y a.posted ≡ true) front = subst (Each (λ a. is_of x y a.posted ≡ true)) (sym here) (Each-passes (λ a. is_of x y a.posted) rest) in
    let now : IsCleanLine (accepted_in accepted x y) (map receipt_of front) = subst (λ (e : ℕ). IsCleanLine (accepted_in accepted e y) (map receipt_of front)) at.0 (subst (λ (l : ℕ). IsCleanLine (accepted_in accepted end l) (map receipt_of front)) at.1 clean) in
    inr (
      subst (IsCleanLine (accepted_in accepted x y)) (ap (map receipt_of) here ∙ same) now,
      self_append front (filter (λ a. is_of x y a.posted) after) (here ∙ split ∙ ap (λ l. l ++ filter (λ a. is_of x y a.posted) after) (filter_all (λ a. is_of x y a.posted) front at_end_line)),
    )

pub step_left : (accepted : List AcceptedEnvelope) (arrivals rest front after : List Incoming) (end line : ℕ)
    → rest ≡ front ++ after → front ≡ filter (λ a. is_of end line a.posted) rest
    → IsCleanLine (accepted_in accepted end line) (map receipt_of front)
    → ((x y : ℕ) → IsLeft accepted arrivals rest x y) → (x y : ℕ) → IsLeft accepted arrivals after x y
step_left accepted arrivals rest front after end line cut picked clean left x y =
    step_by accepted arrivals rest front after end line picked clean x y
    (ap (filter (λ a. is_of x y a.posted)) cut ∙ filter-append (λ a. is_of x y a.posted) front after)
    ((end == x) && (line == y)) refl (left x y)

-- nothing is left of a line where the rest has nothing of it
pub gone_is_clean : (accepted : List AcceptedEnvelope) (arrivals rest : List Incoming) (x y : ℕ) → filter (λ a. is_of x y a.posted) rest ≡ []
    → IsLeft accepted arrivals rest x y → IsCleanLine (accepted_in accepted x y) (got_among arrivals x y)
gone_is_clean accepted arrivals rest x y none (inr done) = done.0
gone_is_clean accepted arrivals rest x y none (inl same) = nothing_is_clean (accepted_in accepted x y) (got_among arrivals x y) (sym same ∙ ap (map receipt_of) none)

-- where the rest has something of a line it has all of it
pub whole_line : (accepted : List AcceptedEnvelope) (arrivals rest front : List Incoming) (x y : ℕ) → front ≡ filter (λ a. is_of x y a.posted) rest → 0 < length front
    → IsLeft accepted arrivals rest x y → map receipt_of front ≡ got_among arrivals x y
whole_line accepted arrivals rest front x y picked some (inl same) = ap (map receipt_of) picked ∙ same
whole_line accepted arrivals rest front x y picked some (inr done) =
    let none : length front ≡ 0 = ap length (picked ∙ done.1) in absurd (omega arith)

before_is_before : (a b c d x y : ℕ) → (nat_lt a c || ((a == c) && nat_lt b d)) ≡ false → (x < c) ⊎ ((x ≡ c) × (y < d)) → ((a == x) && (b == y)) ≡ false
before_is_before a b c d x y h (inl k) = grind (arith, nat_tests)
before_is_before a b c d x y h (inr k) = grind (arith, nat_tests)

-- nothing is of a line before that of the first
pub earlier_line_gone : (rest : List Incoming) (x y : ℕ) (first : Incoming) → 0 < length rest → first ≡ get_or rest 0 first → RisesByLine (λ a. a.posted) rest
    → IsLineBefore x y first.posted.end.0 first.posted.line.0 → filter (λ a. is_of x y a.posted) rest ≡ []
earlier_line_gone rest x y first some is rises before =
    filter_none (λ a. is_of x y a.posted) rest (recursion_from_All (λ a. is_of x y a.posted ≡ false) rest (λ k d lt.
    let a = get_or rest k d in
    let front : get_or rest 0 d ≡ first = get_or_default rest 0 d first some ∙ sym is in
    let not_before = subst (λ (f : Incoming). is_before f.posted.end.0 f.posted.line.0 a.posted ≡ false) front (rises 0 k d (omega arith) lt) in
    before_is_before a.posted.end.0 a.posted.line.0 first.posted.end.0 first.posted.line.0 x y not_before before))

pub receipt_at : (got : List Incoming) (place : ℕ) (a : Incoming) → place < length got → a ≡ get_or got place a → slice_get (map receipt_of got) place ≡ Some (receipt_of a)
receipt_at got place a lt is = slice_get-map receipt_of got place ∙ ap (option_map receipt_of) (slice_get-get_or got place a lt) ∙ ap (λ x. Some (receipt_of x)) (sym is)

-- all receipts before the place are right
abbrev pub RightBefore : List Delivery → List Receipt → ℕ → Type 0
RightBefore put rs place = (k : ℕ) (r : Receipt) → k < place → slice_get rs k ≡ Some r → IsRight put (has_notice (take k rs)) k r

-- one more receipt is right
pub right_more : (put : List Delivery) (got : List Incoming) (place : ℕ) (a : Incoming) → place < length got → a ≡ get_or got place a
    → RightBefore put (map receipt_of got) place → IsRight put (has_notice (take place (map receipt_of got))) place (receipt_of a)
    → RightBefore put (map receipt_of got) (place + 1)
right_more put got place a lt is before here k r under at =
    let rs = map receipt_of got in
    by_test (λ b. (k == place) ≡ b → IsRight put (has_notice (take k rs)) k r) (k == place)
    (λ _ t. let same = exact_unsigned_eq k place t in
    let found : Some (receipt_of a) ≡ Some r = sym (receipt_at got place a lt is) ∙ ap (slice_get rs) (sym same) ∙ at in
    let one : receipt_of a ≡ r = cc in
    subst (λ (n : ℕ). IsRight put (has_notice (take n rs)) n r) (sym same) (subst (IsRight put (has_notice (take place rs)) place) one here))
    (λ _ t. let less : k < place = grind (arith, nat_tests) in before k r less at)
    refl

pub all_right : (put : List Delivery) (got : List Incoming) (place : ℕ) → length got ≤ place → RightBefore put (map receipt_of got) place → AllRight put (map receipt_of got)
all_right put got place le h k r at =
    by_test (λ b. nat_lt k place ≡ b → IsRight put (has_notice (take k (map receipt_of got))) k r) (nat_lt k place)
    (λ _ t. let less : k < place = grind (arith, nat_tests) in h k r less at)
    (λ _ t. let past : length (map receipt_of got) ≤ k = grind (arith, nat_tests, length-map got receipt_of) in
    let none : None ≡ Some r = sym (slice_get_past (map receipt_of got) k past) ∙ at in cc)
    refl

or_false : (b : Bool) → (b || false) ≡ b
or_false true = refl
or_false false = refl

or_assoc : (a b c : Bool) → (a || (b || c)) ≡ ((a || b) || c)
or_assoc true b c = refl
or_assoc false b c = refl

noticed_next : (got : List Incoming) (place : ℕ) (a : Incoming) → place < length got → a ≡ get_or got place a
    → has_notice (take (suc place) (map receipt_of got)) ≡ (has_notice (take place (map receipt_of got)) || is_notice a.content.now)
noticed_next [] place a lt is = absurd (omega arith)
noticed_next (x ∷ got) zero a lt is = or_false (is_notice x.content.now) ∙ ap (λ (y : Incoming). is_notice y.content.now) (sym is)
noticed_next (x ∷ got) (suc place) a lt is =
    ap (λ b. is_notice x.content.now || b) (noticed_next got place a (omega arith) is)
    ∙ or_assoc (is_notice x.content.now) (has_notice (take place (map receipt_of got))) (is_notice a.content.now)

-- whether a notice was got, with one arrival more
pub noticed_more : (got : List Incoming) (place : ℕ) (a : Incoming) → place < length got → a ≡ get_or got place a
    → has_notice (take (place + 1) (map receipt_of got)) ≡ (has_notice (take place (map receipt_of got)) || is_notice a.content.now)
noticed_more got place a lt is =
    let next : place + 1 ≡ suc place = omega arith in
    ap (λ n. has_notice (take n (map receipt_of got))) next ∙ noticed_next got place a lt is

pub list_any-map : {X Y : Type 0} (f : X → Y) (p : Y → Bool) (xs : List X) → list_any (λ x. p (f x)) xs ≡ list_any p (map f xs)
list_any-map f p [] = refl
list_any-map f p (x ∷ xs) = ap (λ b. p (f x) || b) (list_any-map f p xs)

pub empty_gone : (rest : List Incoming) (x y : ℕ) → length rest ≤ 0 → filter (λ a. is_of x y a.posted) rest ≡ []
empty_gone [] x y h = refl
empty_gone (a ∷ rest) x y h = absurd (omega arith)

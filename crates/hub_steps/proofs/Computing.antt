-- The core's steps, one after the other.
use Rattle.std.proofs.Common.{◌≡◌, ℕ, suc, ◌+◌, ◌-◌, ◌<◌, ◌≤◌, Bool, true, false, List, [], ◌∷◌, ◌++◌, Some, None, Result, Ok, Err, refl, sym, ap, subst, append_assoc, append-nil, add-one, arith, ◌∙◌, length, drop}
use Rattle.std.proofs.lemmas.Bool.Decides.{nat_tests}
use Rattle.std.specs.Prelude.{nat_lt, IfOk}
use Rattle.hub_envelope.specs.declared.ids.AgentId.{AgentId}
use Rattle.hub_envelope.specs.declared.ids.EndId.{EndId}
use Rattle.hub_envelope.specs.declared.envelope.Envelope.{Envelope}
use Rattle.hub_core.specs.declared.step.Sender.{Sender}
use Rattle.hub_core.specs.declared.machine.Core.{Core}
use Rattle.hub_core.specs.declared.step.Action.{Action}
use Rattle.hub_core.specs.declared.step.Action.TheVariants as action
use Rattle.hub_core.specs.declared.step.Outcome.{Outcome}
use Rattle.hub_core.specs.declared.step.Outcome.TheVariants as outcome
use Rattle.hub_core.specs.History.{History}
use Rattle.hub_core.specs.declared.step.Listing.{Listing}
use Rattle.hub_core.specs.declared.step.Listing.TheVariants.{HoldsTarget}
use Rattle.hub_core.specs.Facts.{Facts, facts}
use Rattle.hub_core.specs.Posting.{may_post_on_line, listing}
use Rattle.hub_core.specs.Legal.{LegalAfter}
use Rattle.hub_core.specs.Shows.{Shows, FitsAndShows}
use Rattle.hub_steps.specs.declared.shown.Shown.{Shown}
use Rattle.hub_steps.specs.declared.shown.Shown.TheVariants.{Answer, Moving, Doomed, Cast}
use Rattle.hub_steps.specs.declared.step_line.PosterName.{PosterName}
use Rattle.hub_steps.specs.declared.step_line.Command.{Command}
use Rattle.hub_steps.specs.declared.step_line.StepLine.{StepLine}
use Rattle.hub_steps.specs.Computation.{Computation, MayGive, pair, pure, ask, ask_then, step, step_then, ◌>>=◌}
use Rattle.hub_steps.specs.Performed.{ComputesAt, PerformsAt}
use Rattle.hub_steps.specs.Lives.{AllLives}
use Rattle.hub_steps.specs.Unfolding.{sender_of, over_line, on_line_of, enter, go_on, send_inside, send, post_listing, post_count, post_may, post, start_made, then_start, start_if_worker_queue, start_adopted, adopt, line_for_closing_notice, tell_inside, tell, shown_by_closing_outcomes, close_on, close, close_each, close_ports, close_swept, sweep, core_steps, cast_inside, line_zero, cast_over, cast_each, cast_all, cast}
use Rattle.hub_steps.specs.declared.shown.CastPost.{CastPost}

-- ---- computations in general

pub legal_append : (past a b : History) → LegalAfter past a → LegalAfter (past ++ a) b → LegalAfter past (a ++ b)
legal_append past [] b l m = subst (λ k. LegalAfter k b) (append-nil past) m
legal_append past (p ∷ a) b l m = (l.0, legal_append (past ++ p ∷ []) a b l.1 (subst (λ k. LegalAfter k b) (sym (append_assoc past (p ∷ []) a)) m))

pub stepped : (old new : Core) (refused : Bool) (a : Action) (o : Outcome) → FitsAndShows old new (record { action = a; memory_refused = refused }) o → ComputesAt old new (step refused a) o
stepped old new refused a o fits = λ past shows.
    let x = fits past shows in
    (pair refused a o ∷ [], record { unfolds = (o, [], refl, (refl, refl)); legal = (x.0, tt) }, x.1)

pub given : {X : Type 0} → (core : Core) (x : X) → ComputesAt core core (pure x) x
given core x = λ past shows. ([], record { unfolds = (refl, refl); legal = tt }, subst (Shows core) (sym (append-nil past)) shows)

pub asked : {X : Type 0} → (core : Core) (f : Facts → X) (x : X) → ((past : History) → Shows core past → x ≡ f (facts past)) → ComputesAt core core (ask f) x
asked core f x is = λ past shows. ([], record { unfolds = (refl, is past shows); legal = tt }, subst (Shows core) (sym (append-nil past)) shows)

-- what follows on the value of the first
both_give : {X Y : Type 0} → (first : Computation X) (next : X → Computation Y) (past one two : History) (x : X) (y : Y) → MayGive first past one x → MayGive (next x) (past ++ one) two y → MayGive (first >>= next) past (one ++ two) y
both_give (pure v) next past one two x y is did =
    let here : MayGive (next v) past two y = subst (λ m. MayGive (next v) m two y) (ap (λ m. past ++ m) is.0 ∙ append-nil past) (subst (λ w. MayGive (next w) (past ++ one) two y) is.1 did) in
    subst (λ m. MayGive (next v) past (m ++ two) y) (sym is.0) here
both_give (ask_then on) next past one two x y is did = both_give (on (facts past)) next past one two x y is did
both_give (step_then refused a on) next past one two x y is did =
    let p = pair refused a is.0 in
    let here : MayGive (next x) ((past ++ p ∷ []) ++ is.1) two y = subst (λ m. MayGive (next x) m two y) (ap (λ m. past ++ m) is.2 ∙ sym (append_assoc past (p ∷ []) is.1)) did in
    (is.0, is.1 ++ two, ap (λ m. m ++ two) is.2, both_give (on is.0) next (past ++ p ∷ []) is.1 two x y is.3 here)

pub chained : {X Y : Type 0} → (old mid new : Core) (first : Computation X) (next : X → Computation Y) (x : X) (y : Y) → ComputesAt old mid first x → ComputesAt mid new (next x) y → ComputesAt old new (first >>= next) y
chained old mid new first next x y p q = λ past shows.
    let u = p past shows in
    let v = q (past ++ u.0) u.2 in
    (u.0 ++ v.0, record { unfolds = both_give first next past u.0 v.0 x y u.1.unfolds v.1.unfolds; legal = legal_append past u.0 v.0 u.1.legal v.1.legal }, subst (Shows new) (append_assoc past u.0 v.0) v.2)

-- the last of the steps, whose value is made of what it gives
pub shown_as : {X Y : Type 0} → (old new : Core) (steps : Computation X) (f : X → Y) (x : X) → ComputesAt old new steps x → ComputesAt old new (steps >>= λ x. pure (f x)) (f x)
shown_as old new steps f x p = chained old new new steps (λ x. pure (f x)) x (f x) p (given new (f x))

-- what holds of the value of a call holds in the place of it
pub if_ok : {X E : Type 0} → (P Q : X → Type 0) → ((x : X) → P x → Q x) → (r : Result X E) → IfOk r P → IfOk r Q
if_ok P Q f (Ok x) h = f x h
if_ok P Q f (Err e) h = h

-- what is asked is the value that the history so far says
pub asked_then : {X Y : Type 0} → (old new : Core) (f : Facts → X) (next : X → Computation Y) (x : X) (y : Y) → ((past : History) → Shows old past → x ≡ f (facts past)) → ComputesAt old new (next x) y → ComputesAt old new (ask f >>= next) y
asked_then old new f next x y is did = chained old old new (ask f) next x y (asked old f x is) did

-- ---- a step line of one step

-- a step line whose command it is
pub performed : {E : Type 0} → (old new : Core) (lives : AllLives) (line : StepLine) (c : Command) (r : Result Shown E) → line.command ≡ c → IfOk r (λ shown. ComputesAt old new (core_steps lives line.memory_refused c) shown) → IfOk r (λ shown. PerformsAt old new lives line shown)
performed old new lives line c r is did = subst (λ (command : Command). IfOk r (λ shown. ComputesAt old new (core_steps lives line.memory_refused command) shown)) (sym is) did

pub named : (old new : Core) (p : PosterName) (s : Sender) (steps : Sender → Computation Shown) (shown : Shown) → ((h : History) → Shows old h → Some s ≡ sender_of p (facts h)) → ComputesAt old new (steps s) shown → ComputesAt old new (on_line_of p steps) shown
named old new p s steps shown is did = chained old old new (ask (sender_of p)) (over_line steps) (Some s) shown (asked old (sender_of p) (Some s) is) did

pub unnamed : (core : Core) (p : PosterName) (steps : Sender → Computation Shown) → ((h : History) → Shows core h → None ≡ sender_of p (facts h)) → ComputesAt core core (on_line_of p steps) (Answer outcome.NotNow)
unnamed core p steps is = chained core core core (ask (sender_of p)) (over_line steps) None (Answer outcome.NotNow) (asked core (sender_of p) None is) (given core (Answer outcome.NotNow))

-- what the arms of a step line of a poster want
pub ruleset on_lines = (named, unnamed)

-- ---- a post

pub entered_moved : (n : ℕ) (old first second third new : Core) (refused : Bool) (s : Sender) (left hopped o : Outcome) → ComputesAt old first (step refused (action.Enter s)) outcome.Moved → ComputesAt first second (step refused (action.Leave s)) left → ComputesAt second third (step refused (action.Hop s)) hopped
    → ComputesAt third new (enter n refused s) o → ComputesAt old new (enter (suc n) refused s) o
unfolding enter
entered_moved n old first second third new refused s left hopped o a b c d =
    chained old first new (step refused (action.Enter s)) (go_on refused s (enter n refused s)) outcome.Moved o a
    (chained first second new (step refused (action.Leave s)) (λ l. step refused (action.Hop s) >>= λ k. enter n refused s) left o b (chained second third new (step refused (action.Hop s)) (λ k. enter n refused s) hopped o c d))

goes_on : (core : Core) (refused : Bool) (s : Sender) (again : Computation Outcome) (o : Outcome) → (o ≡ outcome.Moved → ⊥) → ComputesAt core core (go_on refused s again o) o
goes_on core refused s again outcome.Moved other = absurd (other refl)
goes_on core refused s again o other = given core o

pub entered_now : (n : ℕ) (old new : Core) (refused : Bool) (s : Sender) (o : Outcome) → (o ≡ outcome.Moved → ⊥) → ComputesAt old new (step refused (action.Enter s)) o → ComputesAt old new (enter (suc n) refused s) o
unfolding enter
entered_now n old new refused s o other a = chained old new new (step refused (action.Enter s)) (go_on refused s (enter n refused s)) o o a (goes_on new refused s (enter n refused s) o other)

-- that many hops were made: what is entered from there on, with the hops left, is entered from the beginning
abbrev pub Hopped : Core → Core → ℕ → Bool → Sender → Type 0
Hopped old now done refused s = (n : ℕ) (later : Core) (o : Outcome) → done + n ≡ 4 → ComputesAt now later (enter n refused s) o → ComputesAt old later (enter 4 refused s) o

pub hopped_none : (core : Core) (refused : Bool) (s : Sender) → Hopped core core 0 refused s
hopped_none core refused s = λ n later o is did.
    let all : n ≡ 4 = omega (arith, is) in
    subst (λ m. ComputesAt core later (enter m refused s) o) all did

pub hopped_more : (done : ℕ) (old now first second new : Core) (refused : Bool) (s : Sender) (left hopped : Outcome) → Hopped old now done refused s → ComputesAt now first (step refused (action.Enter s)) outcome.Moved
    → ComputesAt first second (step refused (action.Leave s)) left → ComputesAt second new (step refused (action.Hop s)) hopped → Hopped old new (done + 1) refused s
hopped_more done old now first second new refused s left hopped h a b c = λ n later o is did.
    let fewer : done + suc n ≡ 4 = omega (arith, is) in
    h (suc n) later o fewer (entered_moved n now first second new later refused s left hopped o a b c did)

pub hopped_last : (done : ℕ) (old now new : Core) (refused : Bool) (s : Sender) (o : Outcome) → Hopped old now done refused s → done ≡ 4 → ComputesAt now new (step refused (action.Enter s)) o → ComputesAt old new (enter 4 refused s) o
unfolding enter
hopped_last done old now new refused s o h is did =
    let none : done + 0 ≡ 4 = omega (arith, is) in
    h 0 new o none did

-- the last Enter, which may find no memory as any step
pub hopped_end : {E : Type 0} → (done : ℕ) (old now new : Core) (refused : Bool) (s : Sender) (r : Result Outcome E) → Hopped old now done refused s → done ≡ 4 → IfOk r (λ o. ComputesAt now new (step refused (action.Enter s)) o) → IfOk r (λ o. ComputesAt old new (enter 4 refused s) o)
hopped_end done old now new refused s (Ok o) h is did = hopped_last done old now new refused s o h is did
hopped_end done old now new refused s (Err e) h is did = did

pub hopped_done : (done : ℕ) (old now new : Core) (refused : Bool) (s : Sender) (o : Outcome) → Hopped old now done refused s → done < 4 → (o ≡ outcome.Moved → ⊥) → ComputesAt now new (step refused (action.Enter s)) o → ComputesAt old new (enter 4 refused s) o
hopped_done done old now new refused s o h less other did =
    let left : done + suc (3 - done) ≡ 4 = omega (arith, less) in
    h (suc (3 - done)) new o left (entered_now (3 - done) now new refused s o other did)

pub sent_in : (old first second new : Core) (refused : Bool) (ports : List EndId) (body : List ℕ) (s : Sender) (answer left : Outcome) → ComputesAt old first (enter 4 refused s) outcome.In
    → ComputesAt first second (step refused (action.Push s ports body)) answer → ComputesAt second new (step refused (action.Leave s)) left → ComputesAt old new (send refused ports body s) (Answer answer)
sent_in old first second new refused ports body s answer left a b c =
    let leaves : Outcome → Computation Shown = λ o. step refused (action.Leave s) >>= λ l. pure (Answer o) in
    chained old first new (enter 4 refused s) (send_inside refused ports body s) outcome.In (Answer answer) a
    (chained first second new (step refused (action.Push s ports body)) leaves answer (Answer answer) b
    (chained second new new (step refused (action.Leave s)) (λ l. pure (Answer answer)) left (Answer answer) c (given new (Answer answer))))

pub sent_closed : (old first new : Core) (refused : Bool) (ports : List EndId) (body : List ℕ) (s : Sender) (left : Outcome) → ComputesAt old first (enter 4 refused s) outcome.Closed
    → ComputesAt first new (step refused (action.Leave s)) left → ComputesAt old new (send refused ports body s) (Answer outcome.Closed)
sent_closed old first new refused ports body s left a c =
    chained old first new (enter 4 refused s) (send_inside refused ports body s) outcome.Closed (Answer outcome.Closed) a
    (chained first new new (step refused (action.Leave s)) (λ l. pure (Answer outcome.Closed)) left (Answer outcome.Closed) c (given new (Answer outcome.Closed)))

pub sent_moved : (old first new : Core) (refused : Bool) (ports : List EndId) (body : List ℕ) (s : Sender) (left : Outcome) → ComputesAt old first (enter 4 refused s) outcome.Moved
    → ComputesAt first new (step refused (action.Leave s)) left → ComputesAt old new (send refused ports body s) Moving
sent_moved old first new refused ports body s left a c =
    chained old first new (enter 4 refused s) (send_inside refused ports body s) outcome.Moved Moving a
    (chained first new new (step refused (action.Leave s)) (λ l. pure Moving) left Moving c (given new Moving))

inside_nothing : (core : Core) (refused : Bool) (ports : List EndId) (body : List ℕ) (s : Sender) (o : Outcome) → (o ≡ outcome.In → ⊥) → (o ≡ outcome.Closed → ⊥) → (o ≡ outcome.Moved → ⊥) → ComputesAt core core (send_inside refused ports body s o) (Answer o)
inside_nothing core refused ports body s outcome.In i k m = absurd (i refl)
inside_nothing core refused ports body s outcome.Closed i k m = absurd (k refl)
inside_nothing core refused ports body s outcome.Moved i k m = absurd (m refl)
inside_nothing core refused ports body s o i k m = given core (Answer o)

pub sent_nothing : (old new : Core) (refused : Bool) (ports : List EndId) (body : List ℕ) (s : Sender) (o : Outcome) → (o ≡ outcome.In → ⊥) → (o ≡ outcome.Closed → ⊥) → (o ≡ outcome.Moved → ⊥) → ComputesAt old new (enter 4 refused s) o → ComputesAt old new (send refused ports body s) (Answer o)
sent_nothing old new refused ports body s o i k m a =
    chained old new new (enter 4 refused s) (send_inside refused ports body s) o (Answer o) a (inside_nothing new refused ports body s o i k m)

-- ---- the tests of a post

not_more : (n m : ℕ) → n ≤ m → nat_lt m n ≡ false
not_more n m few = grind (arith, nat_tests)

more_than : (n m : ℕ) → n < m → nat_lt n m ≡ true
more_than n m more = grind (arith, nat_tests)

-- a post whose list is too long
pub post_long : (core : Core) (refused : Bool) (ports : List EndId) (body : List ℕ) (s : Sender) (may : Bool) → ((h : History) → Shows core h → may ≡ may_post_on_line (facts h) s) → may ≡ true → 16 < length ports → ComputesAt core core (post refused ports body s) (Answer outcome.TooManyPorts)
post_long core refused ports body s may is some many =
    asked_then core core (λ f. may_post_on_line f s) (post_may refused ports body s) true (Answer outcome.TooManyPorts) (λ h shows. sym some ∙ is h shows)
    (subst (λ b. ComputesAt core core (post_count refused ports body s b) (Answer outcome.TooManyPorts)) (sym (more_than 16 (length ports) many)) (given core (Answer outcome.TooManyPorts)))

-- a post that no test refuses before its list is looked at
pub post_listed : (old new : Core) (refused : Bool) (ports given_ports : List EndId) (body : List ℕ) (s : Sender) (may : Bool) (list kind : Listing) (shown : Shown) → ((h : History) → Shows old h → may ≡ may_post_on_line (facts h) s) → may ≡ true → length ports ≤ 16 → given_ports ≡ ports
    → ((h : History) → Shows old h → list ≡ listing (facts h) s given_ports) → list ≡ kind → ComputesAt old new (post_listing refused ports body s kind) shown → ComputesAt old new (post refused ports body s) shown
post_listed old new refused ports given_ports body s may list kind shown is some few same lists of_kind did =
    let asked_list = asked_then old new (λ f. listing f s ports) (post_listing refused ports body s) kind shown (λ h shows. sym of_kind ∙ lists h shows ∙ ap (listing (facts h) s) same) did in
    asked_then old new (λ f. may_post_on_line f s) (post_may refused ports body s) true shown (λ h shows. sym some ∙ is h shows)
    (subst (λ b. ComputesAt old new (post_count refused ports body s b) shown) (sym (not_more (length ports) 16 few)) asked_list)

pub doomed : (old new : Core) (refused : Bool) (ports given_ports : List EndId) (body : List ℕ) (s : Sender) → given_ports ≡ ports → ComputesAt old new (close_each refused given_ports) tt → ComputesAt old new (post_listing refused ports body s HoldsTarget) Doomed
doomed old new refused ports given_ports body s same did =
    shown_as old new (close_each refused ports) (λ done. Doomed) tt (subst (λ es. ComputesAt old new (close_each refused es) tt) same did)

-- ---- the closing of an end

pub closed_on : (old first second new : Core) (refused : Bool) (e : EndId) (s : Sender) (told left answer : Outcome) → ((h : History) → Shows old h → Some s ≡ line_for_closing_notice e (facts h)) → ComputesAt old first (tell refused s) told
    → ComputesAt first second (step refused (action.Leave s)) left → ComputesAt second new (step refused (action.Close e)) answer → ComputesAt old new (close refused e) (shown_by_closing_outcomes told answer)
closed_on old first second new refused e s told left answer is a b c =
    let shown : Shown = shown_by_closing_outcomes told answer in
    let last : Outcome → Computation Shown = λ t. step refused (action.Close e) >>= λ k. pure (shown_by_closing_outcomes t k) in
    asked_then old new (line_for_closing_notice e) (close_on refused e) (Some s) shown is
    (chained old first new (tell refused s) (λ t. step refused (action.Leave s) >>= λ l. last t) told shown a
    (chained first second new (step refused (action.Leave s)) (λ l. last told) left shown b
    (shown_as second new (step refused (action.Close e)) (shown_by_closing_outcomes told) answer c)))

pub told_in : (old first new : Core) (refused : Bool) (s : Sender) (o : Outcome) → ComputesAt old first (enter 4 refused s) outcome.In → ComputesAt first new (step refused (action.Notice s)) o → ComputesAt old new (tell refused s) o
told_in old first new refused s o a b = chained old first new (enter 4 refused s) (tell_inside refused s) outcome.In o a b

tells_nothing : (core : Core) (refused : Bool) (s : Sender) (o : Outcome) → (o ≡ outcome.In → ⊥) → ComputesAt core core (tell_inside refused s o) o
tells_nothing core refused s outcome.In other = absurd (other refl)
tells_nothing core refused s o other = given core o

pub told_nothing : (old new : Core) (refused : Bool) (s : Sender) (o : Outcome) → (o ≡ outcome.In → ⊥) → ComputesAt old new (enter 4 refused s) o → ComputesAt old new (tell refused s) o
told_nothing old new refused s o other a = chained old new new (enter 4 refused s) (tell_inside refused s) o o a (tells_nothing new refused s o other)

-- the first i ports are closed: what closes the others then closes all
abbrev pub ClosedFirst : Core → Core → ℕ → Bool → List EndId → Type 0
ClosedFirst old now i refused ends = (later : Core) → ComputesAt now later (close_each refused (drop i ends)) tt → ComputesAt old later (close_each refused ends) tt

pub closed_more : (i : ℕ) (old now new : Core) (refused : Bool) (ends : List EndId) (e : EndId) (shown : Shown) → drop i ends ≡ e ∷ drop (suc i) ends → ClosedFirst old now i refused ends → ComputesAt now new (close refused e) shown → ClosedFirst old new (i + 1) refused ends
closed_more i old now new refused ends e shown cut first did = λ later rest.
    first later (subst (λ es. ComputesAt now later (close_each refused es) tt) (sym cut) (chained now new later (close refused e) (λ c. close_each refused (drop (suc i) ends)) shown tt did (subst (λ k. ComputesAt new later (close_each refused (drop k ends)) tt) (add-one i) rest)))

-- the same of the ports of envelopes
abbrev pub PortsClosed : Core → Core → ℕ → Bool → List Envelope → Type 0
PortsClosed old now i refused vs = (later : Core) → ComputesAt now later (close_ports refused (drop i vs)) tt → ComputesAt old later (close_ports refused vs) tt

pub ports_more : (i : ℕ) (old now new : Core) (refused : Bool) (vs : List Envelope) (v : Envelope) → drop i vs ≡ v ∷ drop (suc i) vs → PortsClosed old now i refused vs → ComputesAt now new (close_each refused v.ports) tt → PortsClosed old new (i + 1) refused vs
ports_more i old now new refused vs v cut first did = λ later rest.
    first later (subst (λ us. ComputesAt now later (close_ports refused us) tt) (sym cut) (chained now new later (close_each refused v.ports) (λ c. close_ports refused (drop (suc i) vs)) tt tt did (subst (λ k. ComputesAt new later (close_ports refused (drop k vs)) tt) (add-one i) rest)))

pub swept_discarded : (old first new : Core) (refused : Bool) (e : EndId) (vs : List Envelope) → ComputesAt old first (step refused (action.Sweep e)) (outcome.Discarded vs) → ComputesAt first new (close_ports refused vs) tt → ComputesAt old new (sweep refused e) (Answer (outcome.Discarded vs))
swept_discarded old first new refused e vs a b =
    chained old first new (step refused (action.Sweep e)) (close_swept refused) (outcome.Discarded vs) (Answer (outcome.Discarded vs)) a
    (shown_as first new (close_ports refused vs) (λ done. Answer (outcome.Discarded vs)) tt b)

sweeps_nothing : (core : Core) (refused : Bool) (o : Outcome) → ((vs : List Envelope) → o ≡ outcome.Discarded vs → ⊥) → ComputesAt core core (close_swept refused o) (Answer o)
sweeps_nothing core refused (outcome.Discarded vs) other = absurd (other vs refl)
sweeps_nothing core refused o other = given core (Answer o)

pub swept_nothing : (old new : Core) (refused : Bool) (e : EndId) (o : Outcome) → ((vs : List Envelope) → o ≡ outcome.Discarded vs → ⊥) → ComputesAt old new (step refused (action.Sweep e)) o → ComputesAt old new (sweep refused e) (Answer o)
swept_nothing old new refused e o other a = chained old new new (step refused (action.Sweep e)) (close_swept refused) o (Answer o) a (sweeps_nothing new refused o other)

-- ---- queues that a step line starts

pub made_and_started : (old first new : Core) (refused : Bool) (a : Action) (e : EndId) (o : Outcome) → ComputesAt old first (step refused a) (outcome.End e) → ComputesAt first new (step refused (action.Start e)) o → ComputesAt old new (then_start refused a) (Answer (outcome.End e))
made_and_started old first new refused a e o made did =
    chained old first new (step refused a) (start_made refused) (outcome.End e) (Answer (outcome.End e)) made
    (shown_as first new (step refused (action.Start e)) (λ started. Answer (outcome.End e)) o did)

pub adopted_and_started : (old first new : Core) (refused : Bool) (e : EndId) (a : AgentId) (k : ℕ) → ComputesAt old first (step refused (action.Adopt e a)) (outcome.Adopted k) → ComputesAt first new (start_if_worker_queue refused e) tt → ComputesAt old new (adopt refused e a) (Answer (outcome.Adopted k))
adopted_and_started old first new refused e a k adopted did =
    chained old first new (step refused (action.Adopt e a)) (start_adopted refused e) (outcome.Adopted k) (Answer (outcome.Adopted k)) adopted
    (shown_as first new (start_if_worker_queue refused e) (λ started. Answer (outcome.Adopted k)) tt did)

-- ---- casts

pub pushes_nothing : (core : Core) (refused : Bool) (body : List ℕ) (s : Sender) (o : Outcome) → (o ≡ outcome.In → ⊥) → ComputesAt core core (cast_inside refused body s o) o
pushes_nothing core refused body s outcome.In other = absurd (other refl)
pushes_nothing core refused body s o other = given core o

pub cast_there : (old first second new : Core) (refused : Bool) (body : List ℕ) (e : EndId) (entered answer left : Outcome) → ComputesAt old first (step refused (action.Enter (line_zero e))) entered → ComputesAt first second (cast_inside refused body (line_zero e) entered) answer → ComputesAt second new (step refused (action.Leave (line_zero e))) left → ComputesAt old new (cast_over refused body e) answer
cast_there old first second new refused body e entered answer left a b c =
    let s : Sender = line_zero e in
    let last : Outcome → Computation Outcome = λ told. step refused (action.Leave s) >>= λ l. pure told in
    chained old first new (step refused (action.Enter s)) (λ told. cast_inside refused body s told >>= last) entered answer a
    (chained first second new (cast_inside refused body s entered) last answer answer b
    (chained second new new (step refused (action.Leave s)) (λ l. pure answer) left answer c (given new answer)))

-- what is posted from here on comes behind what was posted
abbrev pub CastFirst : Core → Core → ℕ → Bool → List ℕ → List EndId → List CastPost → Type 0
CastFirst old now done refused body ends posts = (later : Core) (rest : List CastPost) → ComputesAt now later (cast_each refused body (drop done ends)) rest → ComputesAt old later (cast_each refused body ends) (posts ++ rest)

pub cast_more : (done : ℕ) (old now new : Core) (refused : Bool) (body : List ℕ) (ends : List EndId) (e : EndId) (o : Outcome) (posts : List CastPost) → drop done ends ≡ e ∷ drop (suc done) ends → CastFirst old now done refused body ends posts → ComputesAt now new (cast_over refused body e) o → CastFirst old new (done + 1) refused body ends (posts ++ record { end = e; outcome = o } ∷ [])
cast_more done old now new refused body ends e o posts here h did = λ later rest more.
    let left : ComputesAt new later (cast_each refused body (drop (suc done) ends)) rest = subst (λ k. ComputesAt new later (cast_each refused body (drop k ends)) rest) (add-one done) more in
    let p : CastPost = record { end = e; outcome = o } in
    let next : Outcome → Computation (List CastPost) = λ answer. cast_each refused body (drop (suc done) ends) >>= λ others. pure (record { end = e; outcome = answer } ∷ others) in
    let both : ComputesAt now later (cast_each refused body (e ∷ drop (suc done) ends)) (p ∷ rest) =
    chained now new later (cast_over refused body e) next o (p ∷ rest) did (chained new later later (cast_each refused body (drop (suc done) ends)) (λ others. pure (p ∷ others)) rest (p ∷ rest) left (given later (p ∷ rest)))
    in
    subst (ComputesAt old later (cast_each refused body ends)) (sym (append_assoc posts (p ∷ []) rest)) (h later (p ∷ rest) (subst (λ es. ComputesAt now later (cast_each refused body es) (p ∷ rest)) (sym here) both))

pub cast_done : (done : ℕ) (old now : Core) (refused : Bool) (body : List ℕ) (ends : List EndId) (posts : List CastPost) → drop done ends ≡ [] → CastFirst old now done refused body ends posts → ComputesAt old now (cast_each refused body ends) posts
cast_done done old now refused body ends posts none h =
    subst (ComputesAt old now (cast_each refused body ends)) (append-nil posts) (h now [] (subst (λ es. ComputesAt now now (cast_each refused body es) []) (sym none) (given now [])))

pub cast_on : (old first new : Core) (refused : Bool) (e : EndId) (ports : List EndId) (body text : List ℕ) (ends listed : List EndId) (posts : List CastPost) (answer : Outcome) → text ≡ body → listed ≡ ends → answer ≡ outcome.Destinations ends → ComputesAt old first (step refused (action.Cast e ports text)) answer
    → ComputesAt first new (cast_each refused body listed) posts → ComputesAt old new (cast refused e ports body) (Cast posts)
cast_on old first new refused e ports body text ends listed posts answer same all is a b =
    let did = subst (λ told. ComputesAt old first (step refused (action.Cast e ports body)) told) is (subst (λ t. ComputesAt old first (step refused (action.Cast e ports t)) answer) same a) in
    chained old first new (step refused (action.Cast e ports body)) (cast_all refused body) (outcome.Destinations ends) (Cast posts) did
    (chained first new new (cast_each refused body ends) (λ told. pure (Cast told)) posts (Cast posts) (subst (λ es. ComputesAt first new (cast_each refused body es) posts) all b) (given new (Cast posts)))

casts_nothing : (core : Core) (refused : Bool) (body : List ℕ) (o : Outcome) → ((ends : List EndId) → o ≡ outcome.Destinations ends → ⊥) → ComputesAt core core (cast_all refused body o) (Answer o)
casts_nothing core refused body (outcome.Destinations ends) other = absurd (other ends refl)
casts_nothing core refused body o other = given core (Answer o)

pub cast_refused : (old new : Core) (refused : Bool) (e : EndId) (ports : List EndId) (body text : List ℕ) (o : Outcome) → text ≡ body → ((ends : List EndId) → o ≡ outcome.Destinations ends → ⊥) → ComputesAt old new (step refused (action.Cast e ports text)) o → ComputesAt old new (cast refused e ports body) (Answer o)
cast_refused old new refused e ports body text o same other did =
    chained old new new (step refused (action.Cast e ports body)) (cast_all refused body) o (Answer o) (subst (λ t. ComputesAt old new (step refused (action.Cast e ports t)) o) same did) (casts_nothing new refused body o other)

-- What agents are given, one end after the other.
use Rattle.std.proofs.Common.{◌≡◌, ◌∙◌, ◌<◌, ◌≤◌, nat_lt, ℕ, ◌+◌, ◌*◌, ◌==◌, Bool, true, false, if◌then◌else◌, List, [], ◌∷◌, ◌++◌, Option, Some, None, length, get_or, slice_set, take, suc, Result, Ok, Err, OnOk, get_or-set_same, get_or-set_other, ap, sym, refl, subst, ⊎_elim, arith, rules}
use Rattle.std.specs.Prelude.{option_to_list}
use Rattle.std.proofs.lemmas.Bool.{cases_eq}
use Rattle.std.proofs.lemmas.List.{length-set, length-take-le, take_all}
use Rattle.std.proofs.Math.Seq.{take-suc}
use Rattle.std.specs.List.{count_by}
use Rattle.hub_envelope.specs.declared.ids.AgentId.{AgentId}
use Rattle.hub_envelope.specs.declared.ids.EndId.{EndId}
use Rattle.hub_loop.specs.Adopting.{HoldsMore}
use Rattle.hub_loop.specs.Ending.{is_held}
use Rattle.hub_loop.specs.Holding.{end_held}
use Rattle.hub_loop.specs.declared.held.Held.{Held}
use Rattle.hub_script.specs.Contents.{Contents, declared_agents, channels, members}
use Rattle.hub_script.specs.Known.{port_count}
use Rattle.hub_script.specs.declared.script.DeclaredChannel.{DeclaredChannel}
use Rattle.hub_script.specs.declared.script.DeclaredMember.{DeclaredMember}
use Rattle.hub_agent.specs.Agents.{AgentState, KeepsButEnds}
use Rattle.hub_agent.specs.Given.{IsGiven, given, member_at, members_from, members_given, port_at, ports_from, ports_given, queue_given, where_at}
use Rattle.hub_run.specs.Giving.{AreGiven, Gives, GivesEnds, HasNothing, HaveNothing}
use Rattle.hub_agent.specs.Owning.{has, times}
use Rattle.hub_agent.proofs.Brings.{count_held}
use Rattle.hub_agent.proofs.Closings.{one_held}
use Rattle.hub_agent.proofs.Owns.{times_both}

keeps_both : (old mid new : AgentState) → KeepsButEnds old mid → KeepsButEnds mid new → KeepsButEnds old new
keeps_both old mid new first second = second ∙ ap (λ (a : AgentState). record a { ends = new.ends }) first

-- one list, and then another
gives_both : (first second both : ℕ → List EndId) (old mid new : List AgentState) → ((k e : ℕ) → times e (both k) ≡ times e (first k) + times e (second k))
    → Gives first old mid → Gives second mid new → Gives both old new
gives_both first second both old mid new is (len, one) (more, two) = (
  more ∙ len,
  λ k d below.
      let there : k < length mid = omega (arith, len, below) in
      let (kept, had) = one k d below in
      let (keeps, has_now) = two k d there in (
        keeps_both (get_or old k d) (get_or mid k d) (get_or new k d) kept keeps,
        λ e.
            let a = had e in
            let b = has_now e in
            let c = is k e in
            omega (arith, a, b, c),
      ),
)

-- as many of each
gives_as : (first second : ℕ → List EndId) (old new : List AgentState) → ((k e : ℕ) → k < length old → times e (second k) ≡ times e (first k)) → Gives first old new → Gives second old new
gives_as first second old new is (len, one) = (
  len,
  λ k d below.
      let (kept, had) = one k d below in
      (kept, λ e. let a = had e in let b = is k e below in omega (arith, a, b)),
)

where_step : (is_here : Bool) (e : ℕ) (xs ys : List EndId) → times e (if is_here then xs ++ ys else []) ≡ times e (if is_here then xs else []) + times e (if is_here then ys else [])
where_step true e xs ys = times_both e xs ys
where_step false e xs ys = omega arith

where_both : (number : ℕ) (at : AgentId) (e : ℕ) (xs ys : List EndId) → times e (where_at number at (xs ++ ys)) ≡ times e (where_at number at xs) + times e (where_at number at ys)
where_both number at e xs ys = where_step (at.0 == number) e xs ys

-- one channel more
ports_more : (script : Contents) (number e place : ℕ) (cs : List DeclaredChannel) (c : DeclaredChannel)
    → times e (ports_from script number place (cs ++ c ∷ [])) ≡ times e (ports_from script number place cs) + times e (where_at number c.at (port_at script (place + 2 * length cs) ∷ port_at script (place + 2 * length cs + 1) ∷ []))
ports_more script number e place [] c =
    let here = times_both e (where_at number c.at (port_at script place ∷ port_at script (place + 1) ∷ [])) [] in
    let same : place + 2 * 0 ≡ place = omega arith in
    subst (λ p. times e (ports_from script number place (c ∷ [])) ≡ 0 + times e (where_at number c.at (port_at script p ∷ port_at script (p + 1) ∷ []))) (sym same) (omega (arith, here))
ports_more script number e place (x ∷ cs) c =
    let first = where_at number x.at (port_at script place ∷ port_at script (place + 1) ∷ []) in
    let all = times_both e first (ports_from script number (place + 2) (cs ++ c ∷ [])) in
    let some = times_both e first (ports_from script number (place + 2) cs) in
    let rest = ports_more script number e (place + 2) cs c in
    let same : place + 2 + 2 * length cs ≡ place + 2 * length (x ∷ cs) = omega arith in
    subst (λ p. times e (ports_from script number place ((x ∷ cs) ++ c ∷ [])) ≡ times e (ports_from script number place (x ∷ cs)) + times e (where_at number c.at (port_at script p ∷ port_at script (p + 1) ∷ []))) same (omega (arith, all, some, rest))

-- one member more
members_more : (script : Contents) (number e place : ℕ) (ms : List DeclaredMember) (m : DeclaredMember)
    → times e (members_from script number place (ms ++ m ∷ [])) ≡ times e (members_from script number place ms) + times e (where_at number m.at (member_at script (place + length ms) ∷ []))
members_more script number e place [] m =
    let here = times_both e (where_at number m.at (member_at script place ∷ [])) [] in
    let same : place + 0 ≡ place = omega arith in
    subst (λ p. times e (members_from script number place (m ∷ [])) ≡ 0 + times e (where_at number m.at (member_at script p ∷ []))) (sym same) (omega (arith, here))
members_more script number e place (x ∷ ms) m =
    let first = where_at number x.at (member_at script place ∷ []) in
    let all = times_both e first (members_from script number (place + 1) (ms ++ m ∷ [])) in
    let some = times_both e first (members_from script number (place + 1) ms) in
    let rest = members_more script number e (place + 1) ms m in
    let same : place + 1 + length ms ≡ place + length (x ∷ ms) = omega arith in
    subst (λ p. times e (members_from script number place ((x ∷ ms) ++ m ∷ [])) ≡ times e (members_from script number place (x ∷ ms)) + times e (where_at number m.at (member_at script p ∷ []))) same (omega (arith, all, some, rest))

-- the queues of the first so many agents
abbrev pub first_queues : ℕ → ℕ → List EndId
first_queues place number = if nat_lt number place then queue_given number else []

queue_step : (k place e : ℕ) (was now here : Bool) → nat_lt k place ≡ was → nat_lt k (place + 1) ≡ now → (place == k) ≡ here
    → times e (if now then queue_given k else []) ≡ times e (if was then queue_given k else []) + times e (if here then record { 0 = place } ∷ [] else [])
queue_step k place e true true false before after at = omega arith
queue_step k place e false false false before after at = omega arith
queue_step k place e false true true before after at =
    let same : place ≡ k = search rules in
    let one = ap (λ n. times e (record { 0 = n } ∷ [])) same in
    omega (arith, one)
queue_step k place e true true true before after at =
    let same : place ≡ k = search rules in
    let below : k < place = search rules in
    absurd (omega (arith, same, below))
queue_step k place e true false here before after at =
    let below : k < place = search rules in
    let above : place + 1 ≤ k = search rules in
    absurd (omega (arith, below, above))
queue_step k place e false true false before after at =
    let below : k < place + 1 = search rules in
    let above : place ≤ k = search rules in
    let same : k ≡ place = omega (arith, below, above) in
    let here : (place == k) ≡ true = search rules in
    absurd cc
queue_step k place e false false true before after at =
    let same : place ≡ k = search rules in
    let above : place + 1 ≤ k = search rules in
    absurd (omega (arith, same, above))

-- one queue more
queues_more : (place k e : ℕ) → times e (first_queues (place + 1) k) ≡ times e (first_queues place k) + times e (where_at k (record { 0 = place }) (record { 0 = place } ∷ []))
queues_more place k e = queue_step k place e (nat_lt k place) (nat_lt k (place + 1)) (place == k) refl refl refl

queues_step : (place k e : ℕ) (b : Bool) → nat_lt k place ≡ b → k < place → times e (queue_given k) ≡ times e (if b then queue_given k else [])
queues_step place k e true is below = refl
queues_step place k e false is below = let above : place ≤ k = search rules in absurd (omega (arith, below, above))

queues_all : (place k e : ℕ) → k < place → times e (queue_given k) ≡ times e (first_queues place k)
queues_all place k e below = queues_step place k e (nat_lt k place) refl below

still_kept : (old new : AgentState) → KeepsButEnds old new → new.kept ≡ old.kept
still_kept old new same = ap (λ (a : AgentState). a.kept) same

-- nothing was held before, and all was given
pub are_given : (script : Contents) (none queues ports all : List AgentState) → HaveNothing none → Gives queue_given none queues → Gives (ports_given script) queues ports → Gives (members_given script) ports all → AreGiven script all
are_given script none queues ports all nothing (as_many, one) (still, two) (yet, three) = λ k d below.
    let third : k < length ports = omega (arith, yet, below) in
    let second : k < length queues = omega (arith, still, third) in
    let first : k < length none = omega (arith, as_many, second) in
    let (kept, empty) = nothing k d first in
    let (kept_queue, queue) = one k d first in
    let (kept_ports, its_ports) = two k d second in
    let (kept_members, its_members) = three k d third in
    record {
      kept = still_kept (get_or ports k d) (get_or all k d) kept_members ∙ still_kept (get_or queues k d) (get_or ports k d) kept_ports ∙ still_kept (get_or none k d) (get_or queues k d) kept_queue ∙ kept;
      ends = λ e.
          let a = empty e in
          let b = queue e in
          let c = its_ports e in
          let f = its_members e in
          let all_of = times_both e (queue_given k) (ports_given script k ++ members_given script k) in
          let both = times_both e (ports_given script k) (members_given script k) in
          omega (arith, a, b, c, f, all_of, both);
    }

-- The agents from that number on are given theirs.
abbrev pub AreGivenFrom : Contents → ℕ → List AgentState → Type 0
AreGivenFrom script number all = (k : ℕ) (d : AgentState) → k < length all → IsGiven script (number + k) (get_or all k d)

pub given_next : (script : Contents) (number : ℕ) (a : AgentState) (all rest : List AgentState) → all ≡ a ∷ rest → AreGivenFrom script number all → IsGiven script number a × AreGivenFrom script (number + 1) rest
given_next script number a all rest is given =
    let whole : AreGivenFrom script number (a ∷ rest) = subst (AreGivenFrom script number) is given in
    let first : number + 0 ≡ number = omega arith in (
      subst (λ n. IsGiven script n a) first (whole 0 a (omega arith)),
      λ k d below.
          let next : number + suc k ≡ number + 1 + k = omega arith in
          subst (λ n. IsGiven script n (get_or rest k d)) next (whole (suc k) d (omega (arith, below))),
    )

given_step : (e k : ℕ) (at : AgentId) (ends : List EndId) (is_here : Bool) → (at.0 == k) ≡ is_here → times e (where_at k at ends) ≡ times e (if is_here then ends else [])
given_step e k at ends is_here is = ap (λ b. times e (if b then ends else [])) is

-- one agent holds one end more
gives_set : (declared_agents : List AgentState) (at : AgentId) (h : Held) (old now : AgentState) → at.0 < length declared_agents → ((d : AgentState) → old ≡ get_or declared_agents at.0 d) → HoldsMore old.ends now.ends h → KeepsButEnds old now
    → GivesEnds at (option_to_list (end_held h)) declared_agents (slice_set declared_agents at.0 now)
gives_set declared_agents at h old now inside was more kept = (
  length-set declared_agents at.0 now,
  λ k f below.
      ⊎_elim
      (λ is.
      let here : (at.0 == k) ≡ true = search rules in
      let new_is : get_or (slice_set declared_agents at.0 now) k f ≡ now = ap (λ j. get_or (slice_set declared_agents at.0 now) j f) is ∙ get_or-set_same declared_agents at.0 now f inside in
      let old_is : old ≡ get_or declared_agents k f = was f ∙ ap (λ j. get_or declared_agents j f) (sym is) in (
        subst (KeepsButEnds (get_or declared_agents k f)) (sym new_is) (subst (λ (a : AgentState). KeepsButEnds a now) old_is kept),
        λ e.
            let a = ap (λ (x : AgentState). has x e) new_is in
            let b = ap (λ (x : AgentState). has x e) old_is in
            let c = count_held e old.ends now.ends h more in
            let f' = one_held e h in
            let g = given_step e k at (option_to_list (end_held h)) true here in
            omega (arith, a, b, c, f', g),
      ))
      (λ differs.
      let away : (at.0 == k) ≡ false = search rules in
      let same = get_or-set_other declared_agents at.0 k now f differs in (
        subst (KeepsButEnds (get_or declared_agents k f)) (sym same) refl,
        λ e.
            let a = ap (λ (x : AgentState). has x e) same in
            let g = given_step e k at (option_to_list (end_held h)) false away in
            omega (arith, a, g),
      ))
      (cases_eq k at.0),
)

pub gives_one : {X E : Type 0} (result : Result X E) (declared_agents : List AgentState) (at : AgentId) (place : ℕ) (h : Held) (old now : AgentState) → place ≡ at.0 → place < length declared_agents → ((d : AgentState) → old ≡ get_or declared_agents place d)
    → KeepsButEnds old now → OnOk result (HoldsMore old.ends now.ends h) → OnOk result (GivesEnds at (option_to_list (end_held h)) declared_agents (slice_set declared_agents place now))
gives_one (Ok x) declared_agents at place h old now is inside was kept more =
    subst (λ n. GivesEnds at (option_to_list (end_held h)) declared_agents (slice_set declared_agents n now)) (sym is)
    (gives_set declared_agents at h old now (subst (λ n. n < length declared_agents) is inside) (subst (λ n. (d : AgentState) → old ≡ get_or declared_agents n d) is was) more kept)
gives_one (Err x) declared_agents at place h old now is inside was kept more = tt

-- it is the end of that number
pub gives_numbered : {X E : Type 0} (result : Result X E) (at : AgentId) (h : Held) (end : EndId) (old new : List AgentState) → end_held h ≡ Some end
    → OnOk result (GivesEnds at (option_to_list (end_held h)) old new) → OnOk result (GivesEnds at (end ∷ []) old new)
gives_numbered result at h end old new numbered gives = subst (λ (o : Option EndId). OnOk result (GivesEnds at (option_to_list o) old new)) numbered gives

-- one end, and then another
pub gives_two : {X E : Type 0} (result : Result X E) (at : AgentId) (first second : EndId) (old mid new : List AgentState) → GivesEnds at (first ∷ []) old mid
    → OnOk result (GivesEnds at (second ∷ []) mid new) → OnOk result (GivesEnds at (first ∷ second ∷ []) old new)
gives_two (Ok x) at first second old mid new one two =
    gives_both (λ k. where_at k at (first ∷ [])) (λ k. where_at k at (second ∷ [])) (λ k. where_at k at (first ∷ second ∷ [])) old mid new (λ k e. where_both k at e (first ∷ []) (second ∷ [])) one two
gives_two (Err x) at first second old mid new one two = tt

-- the queue of one more agent
pub queues_next : (place drawn : ℕ) (number : AgentId) (old mid new : List AgentState) → number.0 ≡ place → drawn ≡ place → Gives (first_queues place) old mid
    → GivesEnds number (record { 0 = drawn } ∷ []) mid new → Gives (first_queues (place + 1)) old new
queues_next place drawn number old mid new is at first one =
    let here : GivesEnds (record { 0 = place }) (record { 0 = place } ∷ []) mid new =
    subst (λ n. GivesEnds (record { 0 = n }) (record { 0 = place } ∷ []) mid new) is (subst (λ n. GivesEnds number (record { 0 = n } ∷ []) mid new) at one) in
    gives_both (first_queues place) (λ k. where_at k (record { 0 = place }) (record { 0 = place } ∷ [])) (first_queues (place + 1)) old mid new (λ k e. queues_more place k e) first here

pub queues_done : (place : ℕ) (old new : List AgentState) → length old ≡ place → Gives (first_queues place) old new → Gives queue_given old new
queues_done place old new all given = gives_as (first_queues place) queue_given old new (λ k e below. queues_all place k e (subst (λ n. k < n) all below)) given

two_ends : (a b c d : ℕ) → a ≡ c → b ≡ d → ◌≡◌ {A = List EndId} (record { 0 = a } ∷ record { 0 = b } ∷ []) (record { 0 = c } ∷ record { 0 = d } ∷ [])
two_ends a b c d first second = ap (λ (n : ℕ). record { 0 = n } ∷ record { 0 = b } ∷ []) first ∙ ap (λ (n : ℕ). record { 0 = c } ∷ record { 0 = n } ∷ []) second

one_more : {X : Type 0} (xs : List X) (done : ℕ) (x : X) → done < length xs → x ≡ get_or xs done x → take (done + 1) xs ≡ take done xs ++ x ∷ []
one_more xs done x inside is = let next : done + 1 ≡ suc done = omega arith in ap (λ n. take n xs) next ∙ take-suc xs done x inside ∙ ap (λ y. take done xs ++ y ∷ []) (sym is)

-- the ports of one more channel
pub ports_next : (script : Contents) (done drawn : ℕ) (c : DeclaredChannel) (old mid new : List AgentState) → done < length (channels script) → c ≡ get_or (channels script) done c
    → drawn ≡ length (declared_agents script) + 2 * done → Gives (λ k. ports_from script k 0 (take done (channels script))) old mid
    → GivesEnds c.at (record { 0 = drawn } ∷ record { 0 = drawn + 1 } ∷ []) mid new → Gives (λ k. ports_from script k 0 (take (done + 1) (channels script))) old new
ports_next script done drawn c old mid new inside is at first one =
    let all = channels script in
    let len : length (take done all) ≡ done = length-take-le done all (omega (arith, inside)) in
    gives_both (λ k. ports_from script k 0 (take done all)) (λ k. where_at k c.at (record { 0 = drawn } ∷ record { 0 = drawn + 1 } ∷ [])) (λ k. ports_from script k 0 (take (done + 1) all)) old mid new (λ k e.
    let more = ap (λ cs. times e (ports_from script k 0 cs)) (one_more all done c inside is) ∙ ports_more script k e 0 (take done all) c in
    let ends = ap (λ ends. times e (where_at k c.at ends)) (two_ends drawn (drawn + 1) _ _ (omega (arith, at, len)) (omega (arith, at, len))) in
    more ∙ ap (λ n. times e (ports_from script k 0 (take done all)) + n) (sym ends)) first one

-- one more member
pub members_next : (script : Contents) (done drawn : ℕ) (m : DeclaredMember) (old mid new : List AgentState) → done < length (members script) → m ≡ get_or (members script) done m
    → drawn ≡ length (declared_agents script) + port_count script + done → Gives (λ k. members_from script k 0 (take done (members script))) old mid
    → GivesEnds m.at (record { 0 = drawn } ∷ []) mid new → Gives (λ k. members_from script k 0 (take (done + 1) (members script))) old new
members_next script done drawn m old mid new inside is at first one =
    let all = members script in
    let len : length (take done all) ≡ done = length-take-le done all (omega (arith, inside)) in
    let place : drawn ≡ length (declared_agents script) + port_count script + (0 + length (take done all)) = omega (arith, at, len) in
    gives_both (λ k. members_from script k 0 (take done all)) (λ k. where_at k m.at (record { 0 = drawn } ∷ [])) (λ k. members_from script k 0 (take (done + 1) all)) old mid new (λ k e.
    let more = ap (λ ms. times e (members_from script k 0 ms)) (one_more all done m inside is) ∙ members_more script k e 0 (take done all) m in
    more ∙ ap (λ n. times e (members_from script k 0 (take done all)) + times e (where_at k m.at (record { 0 = n } ∷ []))) (sym place)) first one

-- all of them
pub gives_all : {X : Type 0} (from : ℕ → List X → List EndId) (done : ℕ) (all : List X) (old new : List AgentState) → length all ≤ done → Gives (λ k. from k (take done all)) old new → Gives (λ k. from k all) old new
gives_all from done all old new is gives = subst (λ xs. Gives (λ k. from k xs) old new) (take_all done all is) gives

-- an agent that was opened has nothing
pub has_nothing : (a : AgentState) → a.ends.slots ≡ [] → a.kept ≡ None → HasNothing a
has_nothing a empty kept = (kept, λ e. ap (count_by (is_held e)) empty)

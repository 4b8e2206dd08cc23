-- How many queues and how many posters that are away an agent has: what the core counts is what the facts say.
use Rattle.std.proofs.Common.{Bool, List, None, Option, Some, ap, arith, cond, eqb, false, length, length-set, lt-ltb, nat_lt, ne_eqb, not, refl, subst, suc, sym, true, zero, ℕ, ◌&&◌, ◌*◌, ◌+◌, ◌-◌, ◌<◌, ◌||◌, ◌∙◌, ◌≡◌, ◌≤◌, ⊎_elim, inl, inr, rules, ◌⊎◌}
use Rattle.hub_core.proofs.Words.{Agent, AgentId, Client, End, EndNow, Facts, Kind, MAX_ENDS, Place, Port, SoundPlaces, With, Worker, adopting, agent_now, any_below, change_owner, count_away, count_with, end_now, eqb-false, eqb-true, false≢true, gone, is_away_of, owner_by, with_agent, is_free, change_at, set_at, counted, Inside, Out, is_out, is_some, is_with, kept_away, lines_of, no_end, one_less, one_more, option_map, owner, peer_of, place, slice_get, cases_eq, slice_get_within, total, EndId, Member, InFlight, Sender, LineNow, is_queue, on_line, is_released, is_holder, Phase, count_of, is_queue_of, and-false, or-true}
use Rattle.hub_core.proofs.Items.{eqb_same, is_there, slice_get-set_other, slice_get-set_same, or_none, at_test}
use Rattle.hub_core.proofs.Seeing.{SoundlyShows}
use Rattle.hub_core.proofs.Speakers.{placed_made, no_port, port_of, hears_of, no_member, released_out, free_port_out}
use Rattle.hub_core.proofs.Totals.{bit, total_nothing, total_past, total_same, total_change}
use Rattle.hub_core.proofs.SoundLines.{on_place}

-- what the core keeps of these counts
pub record Counted (agents : List Agent) (f : Facts) : Type 0 where
  pub queues : (j : Kind) (a : AgentId) → count_of j (slice_get agents a.0) ≡ count_with (is_queue_of j) a f
  pub away : (a : AgentId) → kept_away (slice_get agents a.0) ≡ count_away a f

pub counts_of : {agents : List Agent} {ends : List End} {f : Facts} → SoundlyShows agents ends f → Counted agents f
counts_of h = record { queues = h.queues; away = h.away }

-- whether the agent has the end, and its kind passes the test
abbrev pub counts_at : (Option Kind → Bool) → AgentId → EndNow → Bool
counts_at test a x = test x.kind && is_with a x.place

-- ---- sums

bit_of : (b : Bool) → cond b 1 0 ≡ bit b
bit_of true = refl
bit_of false = refl

plus_none : (n : ℕ) → n ≡ n + 0
plus_none n = omega arith

less_none : (n : ℕ) → n ≡ n - 0
less_none n = omega arith

none_less : (n : ℕ) → 0 ≡ 0 - n
none_less n = omega arith

-- One end of a kind goes from one place to another, or is new, and no other one changes in what is counted.
pub record OneEnd (f g : Facts) (e more : ℕ) (k : Kind) (p q : Option Place) : Type 0 where
  pub ends : g.ends ≡ f.ends + more
  pub made : e < g.ends
  pub none : (d : ℕ) → f.ends ≤ d → f.end d ≡ no_end
  pub was : (test : Option Kind → Bool) (a : AgentId) → counts_at test a (f.end e) ≡ (test (Some k) && is_with a p)
  pub is : (g.end e).kind ≡ Some k
  pub to : (g.end e).place ≡ q
  pub kinds : (d : ℕ) → (d ≡ e → ⊥) → (g.end d).kind ≡ (f.end d).kind
  pub places : (d : ℕ) → (d ≡ e → ⊥) → (g.end d).place ≡ (f.end d).place

-- an end that was made goes from its place to another
pub end_went : {f g : Facts} (e : ℕ) (x : End) (q : Option Place) → SoundPlaces f → f.end e ≡ end_now (Some x) → g.ends ≡ f.ends → ((d : ℕ) → (g.end d).kind ≡ (f.end d).kind) → ((d : ℕ) → (g.end d).place ≡ cond (eqb d e) q (f.end d).place) → OneEnd f g e 0 x.kind (Some x.place) q
end_went {f = f} {g = g} e x q h same ends kinds places = record {
  ends = ends ∙ omega arith;
  made = subst (λ n. e < n) (sym ends) (placed_made f e x.place h (ap (λ (y : EndNow). y.place) same));
  none = h.ends;
  was = λ test a. ap (counts_at test a) same;
  is = kinds e ∙ ap (λ (y : EndNow). y.kind) same;
  to = places e ∙ ap (λ b. cond b q (f.end e).place) (eqb_same e);
  kinds = λ d far. kinds d;
  places = λ d far. places d ∙ ap (λ b. cond b q (f.end d).place) (ne_eqb d e far);
}

-- where one end changes, which may be a new one
one_end : {f g : Facts} {e more : ℕ} {k : Kind} {p q : Option Place} → OneEnd f g e more k p q → (test : Option Kind → Bool) (a : AgentId) → count_with test a f + bit (test (Some k) && is_with a q) ≡ count_with test a g + bit (test (Some k) && is_with a p)
one_end {f = f} {g = g} {e = e} {more = more} {k = k} {p = p} {q = q} w test a =
    let u : ℕ → ℕ = λ x. cond (counts_at test a (g.end x)) 1 0 in
    let v : ℕ → ℕ = λ x. cond (counts_at test a (f.end x)) 1 0 in
    let past : total v (f.ends + more) ≡ total v f.ends = total_past v f.ends more (λ d from. ap (λ (x : EndNow). cond (counts_at test a x) 1 0) (w.none d from) ∙ ap (λ b. cond b 1 0) (and-false (test None))) in
    let made : e < f.ends + more = subst (λ n. e < n) w.ends w.made in
    let sum : total v (f.ends + more) + u e ≡ total u (f.ends + more) + v e = total_change v u (f.ends + more) e made (λ d far. ap (λ b. cond b 1 0) (rw (w.kinds d far, w.places d far) refl)) in
    let range : total u g.ends ≡ total u (f.ends + more) = ap (total u) w.ends in
    let now : u e ≡ bit (test (Some k) && is_with a q) = ap (λ x. cond (test x && is_with a (g.end e).place) 1 0) w.is ∙ ap (λ x. cond (test (Some k) && is_with a x) 1 0) w.to ∙ bit_of (test (Some k) && is_with a q) in
    let then : v e ≡ bit (test (Some k) && is_with a p) = ap (λ b. cond b 1 0) (w.was test a) ∙ bit_of (test (Some k) && is_with a p) in
    omega arith

-- the count of an agent, where no end changes in what is counted
count_same : (test : Option Kind → Bool) (a : AgentId) (f g : Facts) → g.ends ≡ f.ends → ((d : ℕ) → counts_at test a (g.end d) ≡ counts_at test a (f.end d)) → count_with test a g ≡ count_with test a f
count_same test a f g ends each =
    let w : ℕ → ℕ = λ x. cond (counts_at test a (f.end x)) 1 0 in
    let u : ℕ → ℕ = λ x. cond (counts_at test a (g.end x)) 1 0 in
    ap (total u) ends ∙ total_same w u f.ends (λ d less. ap (λ b. cond b 1 0) (each d))

-- how many posters of the agent are away at an end
abbrev pub away_at : AgentId → Facts → ℕ → ℕ
away_at a f x = total (λ l. cond (is_away_of f a x l) 1 0) (lines_of (f.end x).kind)

-- the facts say the same of who is away at an end
abbrev pub IsCalmAt : AgentId → Facts → Facts → ℕ → Type 0
IsCalmAt a f g x = (lines_of (g.end x).kind ≡ lines_of (f.end x).kind) × ((l : ℕ) → is_away_of g a x l ≡ is_away_of f a x l)

pub calm_count : (a : AgentId) (f g : Facts) (x : ℕ) → IsCalmAt a f g x → away_at a g x ≡ away_at a f x
calm_count a f g x calm =
    ap (total (λ l. cond (is_away_of g a x l) 1 0)) calm.0 ∙ total_same (λ l. cond (is_away_of f a x l) 1 0) (λ l. cond (is_away_of g a x l) 1 0) (lines_of (f.end x).kind) (λ l less. ap (λ b. cond b 1 0) (calm.1 l))

-- who is away stays where it is so at every end
pub away_same : (a : AgentId) (f g : Facts) → g.ends ≡ f.ends → ((x : ℕ) → x < f.ends → IsCalmAt a f g x) → count_away a g ≡ count_away a f
away_same a f g ends calm = ap (total (away_at a g)) ends ∙ total_same (away_at a f) (away_at a g) f.ends (λ x less. calm_count a f g x (calm x less))

-- with one end more, at which nobody is away
pub away_more : (a : AgentId) (f g : Facts) → g.ends ≡ f.ends + 1 → ((x : ℕ) → x < f.ends → IsCalmAt a f g x) → away_at a g f.ends ≡ 0 → count_away a g ≡ count_away a f
away_more a f g ends calm none =
    let next_one : g.ends ≡ suc f.ends = omega (arith, ends) in
    let rest : total (away_at a g) f.ends ≡ total (away_at a f) f.ends = total_same (away_at a f) (away_at a g) f.ends (λ x less. calm_count a f g x (calm x less)) in
    ap (total (away_at a g)) next_one ∙ omega arith

-- nobody is away where every line is out
pub none_at : (a : AgentId) (f : Facts) (x : ℕ) → ((l : ℕ) → is_out (f.line x l).phase ≡ true) → away_at a f x ≡ 0
none_at a f x out =
    total_same (λ _. 0) (λ l. cond (is_away_of f a x l) 1 0) (lines_of (f.end x).kind) (λ l less. ap (λ b. cond (not b && is_holder a (owner f x l)) 1 0) (out l)) ∙ total_nothing (lines_of (f.end x).kind)

-- one line changes
pub away_change : (a : AgentId) (f g : Facts) (x k : ℕ) → x < f.ends → k < lines_of (f.end x).kind → g.ends ≡ f.ends → ((d : ℕ) → (g.end d).kind ≡ (f.end d).kind) → ((d l : ℕ) → (d ≡ x → l ≡ k → ⊥) → is_away_of g a d l ≡ is_away_of f a d l) → count_away a f + bit (is_away_of g a x k) ≡ count_away a g + bit (is_away_of f a x k)
away_change a f g x k made low ends kinds others =
    let w : ℕ → ℕ = λ l. cond (is_away_of f a x l) 1 0 in
    let u : ℕ → ℕ = λ l. cond (is_away_of g a x l) 1 0 in
    let n : ℕ = lines_of (f.end x).kind in
    let lines : away_at a g x ≡ total u n = ap (λ p. total u (lines_of p)) (kinds x) in
    let at : total w n + u k ≡ total u n + w k = total_change w u n k low (λ l other. ap (λ b. cond b 1 0) (others x l (λ _ same. other same))) in
    let sum : total (away_at a f) f.ends + away_at a g x ≡ total (away_at a g) f.ends + away_at a f x = total_change (away_at a f) (away_at a g) f.ends x made (λ d other. calm_count a f g d (ap lines_of (kinds d), λ l. others d l (λ same _. other same))) in
    let range : count_away a g ≡ total (away_at a g) f.ends = ap (total (away_at a g)) ends in
    let new : u k ≡ bit (is_away_of g a x k) = bit_of (is_away_of g a x k) in
    let old : w k ≡ bit (is_away_of f a x k) = bit_of (is_away_of f a x k) in
    omega arith

-- some number passes a test where the count isn't nothing
pub none_counted : (test : ℕ → Bool) (n : ℕ) → eqb (total (λ x. cond (test x) 1 0) n) 0 ≡ not (any_below test n)
none_counted test zero = refl
none_counted test (suc n) = elim (test n) as (λ b. eqb (total (λ x. cond (test x) 1 0) n + cond b 1 0) 0 ≡ not (any_below test n || b)) [
  | true ↦ ne_eqb (total (λ x. cond (test x) 1 0) n + 1) 0 (λ is. omega arith) ∙ sym (ap not (or-true (any_below test n)))
  | false ↦ let same : total (λ x. cond (test x) 1 0) n + 0 ≡ total (λ x. cond (test x) 1 0) n = omega arith in ap (λ m. eqb m 0) same ∙ none_counted test n ∙ ap not (or_none (any_below test n))
]

-- ---- agents

-- any agent, after one of them was changed
pub change_get : (change : Agent → Agent) (agents : List Agent) (b a : ℕ) → slice_get (change_at change b agents) a ≡ cond (eqb a b) (option_map change (slice_get agents a)) (slice_get agents a)
change_get change agents b a = at_test (λ o. slice_get (change_at change b agents) a ≡ o) (eqb a b) (option_map change (slice_get agents a)) (slice_get agents a)
    (λ is. let same : a ≡ b = eqb-true a b is in
    ap (slice_get (change_at change b agents)) same ∙ mine (slice_get agents b) refl ∙ ap (λ n. option_map change (slice_get agents n)) (sym same))
    (λ is. other (slice_get agents b) (eqb-false a b is))
  where
    mine : (o : Option Agent) → slice_get agents b ≡ o → slice_get (set_at b agents (option_map change o)) b ≡ option_map change (slice_get agents b)
    mine None at = at ∙ sym (ap (option_map change) at)
    mine (Some x) at = slice_get-set_same agents b (change x) (slice_get_within agents b x at) ∙ sym (ap (option_map change) at)

    other : (o : Option Agent) → (a ≡ b → ⊥) → slice_get (set_at b agents (option_map change o)) a ≡ slice_get agents a
    other None far = refl
    other (Some x) far = slice_get-set_other agents b a (change x) far

-- how many agents there are
pub change_length : (change : Agent → Agent) (agents : List Agent) (b : ℕ) → length (change_at change b agents) ≡ length agents
change_length change agents b = elim (slice_get agents b) as (λ o. length (set_at b agents (option_map change o)) ≡ length agents) [
  | None ↦ refl
  | Some x ↦ length-set agents b (change x)
]

-- what is kept of each agent, where one is changed
pub change_each : {A : Type 0} (kept : Option Agent → A) (change : Agent → Agent) (agents : List Agent) (b a : ℕ) → ((x : Agent) → kept (Some (change x)) ≡ kept (Some x)) → kept (slice_get (change_at change b agents) a) ≡ kept (slice_get agents a)
change_each kept change agents b a same = ap kept (change_get change agents b a) ∙ at_test (λ o. kept o ≡ kept (slice_get agents a)) (eqb a b) (option_map change (slice_get agents a)) (slice_get agents a) (λ _. each (slice_get agents a)) (λ _. refl)
  where
    each : (o : Option Agent) → kept (option_map change o) ≡ kept o
    each None = refl
    each (Some x) = same x

-- ---- counts of a kind

-- what an agent keeps after an end of a kind came or went
more_is : (k : Kind) (x : Agent) → (let y : Agent = record x { clients = x.clients + bit (is_queue_of Client (Some k)); workers = x.workers + bit (is_queue_of Worker (Some k)) } in one_more k x ≡ y)
more_is Client x = λ i. record x { clients = x.clients + 1; workers = plus_none x.workers i }
more_is Worker x = λ i. record x { clients = plus_none x.clients i; workers = x.workers + 1 }
more_is _ x = λ i. record x { clients = plus_none x.clients i; workers = plus_none x.workers i }

less_is : (k : Kind) (x : Agent) → (let y : Agent = record x { clients = x.clients - bit (is_queue_of Client (Some k)); workers = x.workers - bit (is_queue_of Worker (Some k)) } in one_less k x ≡ y)
less_is Client x = λ i. record x { clients = x.clients - 1; workers = less_none x.workers i }
less_is Worker x = λ i. record x { clients = less_none x.clients i; workers = x.workers - 1 }
less_is _ x = λ i. record x { clients = less_none x.clients i; workers = less_none x.workers i }

-- what else is kept of each agent stays
pub come_each : {A : Type 0} (kept : Option Agent → A) → ((x : Agent) (c w : ℕ) → (let y : Agent = record x { clients = c; workers = w } in kept (Some y) ≡ kept (Some x))) → (k : Kind) (b : AgentId) (agents : List Agent) (a : ℕ) → kept (slice_get (change_at (one_more k) b.0 agents) a) ≡ kept (slice_get agents a)
come_each kept same k b agents a = change_each kept (one_more k) agents b.0 a (λ x. ap (λ y. kept (Some y)) (more_is k x) ∙ same x _ _)

pub gone_each : {A : Type 0} (kept : Option Agent → A) → ((x : Agent) (c w : ℕ) → (let y : Agent = record x { clients = c; workers = w } in kept (Some y) ≡ kept (Some x))) → (k : Kind) (p : Place) (agents : List Agent) (a : ℕ) → kept (slice_get (gone k p agents) a) ≡ kept (slice_get agents a)
gone_each kept same k (With b) agents a = change_each kept (one_less k) agents b.0 a (λ x. ap (λ y. kept (Some y)) (less_is k x) ∙ same x _ _)
gone_each kept same k _ agents a = refl

pub come_now : (k : Kind) (b : AgentId) (agents : List Agent) (a : ℕ) → agent_now (slice_get (change_at (one_more k) b.0 agents) a) ≡ agent_now (slice_get agents a)
come_now k b agents a = come_each agent_now (λ x c w. refl) k b agents a

pub gone_now : (k : Kind) (p : Place) (agents : List Agent) (a : ℕ) → agent_now (slice_get (gone k p agents) a) ≡ agent_now (slice_get agents a)
gone_now k p agents a = gone_each agent_now (λ x c w. refl) k p agents a

pub come_length : (k : Kind) (b : AgentId) (agents : List Agent) → length (change_at (one_more k) b.0 agents) ≡ length agents
come_length k b agents = change_length (one_more k) agents b.0

pub gone_length : (k : Kind) (p : Place) (agents : List Agent) → length (gone k p agents) ≡ length agents
gone_length k (With b) agents = change_length (one_less k) agents b.0
gone_length k _ agents = refl

-- what is counted of an agent depends on its counts alone
pub same_count : (j : Kind) (x y : Agent) → y.clients ≡ x.clients → y.workers ≡ x.workers → count_of j (Some y) ≡ count_of j (Some x)
same_count Client x y clients workers = clients
same_count Worker x y clients workers = workers
same_count _ x y clients workers = refl

less_by : (j k : Kind) (o : Option Agent) → count_of j (option_map (one_less k) o) ≡ count_of j o - bit (is_queue_of j (Some k))
less_by j k None = none_less (bit (is_queue_of j (Some k)))
less_by Client k (Some x) = ap (λ (y : Agent). y.clients) (less_is k x)
less_by Worker k (Some x) = ap (λ (y : Agent). y.workers) (less_is k x)
less_by _ k (Some x) = refl

more_by : (j k : Kind) (x : Agent) → count_of j (Some (one_more k x)) ≡ count_of j (Some x) + bit (is_queue_of j (Some k))
more_by Client k x = ap (λ (y : Agent). y.clients) (more_is k x)
more_by Worker k x = ap (λ (y : Agent). y.workers) (more_is k x)
more_by _ k x = refl

bit_and : (b c : Bool) (n : ℕ) → cond c (n - bit b) n ≡ n - bit (b && c)
bit_and true true n = refl
bit_and true false n = omega arith
bit_and false true n = refl
bit_and false false n = omega arith

bit_plus : (b c : Bool) (n : ℕ) → cond c (n + bit b) n ≡ n + bit (b && c)
bit_plus true true n = refl
bit_plus true false n = omega arith
bit_plus false true n = refl
bit_plus false false n = omega arith

under : {A B : Type 0} (g : A → B) (c : Bool) (x y : A) → g (cond c x y) ≡ cond c (g x) (g y)
under g true x y = refl
under g false x y = refl

nowhere : (b : Bool) (n : ℕ) → n ≡ n - bit (b && false)
nowhere true n = omega arith
nowhere false n = omega arith

-- the count of an agent after an end went
gone_count : (j k : Kind) (p : Place) (agents : List Agent) (a : AgentId) → count_of j (slice_get (gone k p agents) a.0) ≡ count_of j (slice_get agents a.0) - bit (is_queue_of j (Some k) && is_with a (Some p))
gone_count j k (With b) agents a =
    ap (count_of j) (change_get (one_less k) agents b.0 a.0)
    ∙ under (count_of j) (eqb a.0 b.0) (option_map (one_less k) (slice_get agents a.0)) (slice_get agents a.0)
    ∙ ap (λ n. cond (eqb a.0 b.0) n (count_of j (slice_get agents a.0))) (less_by j k (slice_get agents a.0))
    ∙ bit_and (is_queue_of j (Some k)) (eqb a.0 b.0) (count_of j (slice_get agents a.0))
gone_count j k _ agents a = nowhere (is_queue_of j (Some k)) (count_of j (slice_get agents a.0))

-- the count of an agent after an end came
come_count : (j k : Kind) (b : AgentId) (agents : List Agent) (a : AgentId) → b.0 < length agents → count_of j (slice_get (change_at (one_more k) b.0 agents) a.0) ≡ count_of j (slice_get agents a.0) + bit (is_queue_of j (Some k) && is_with a (Some (With b)))
come_count j k b agents a known =
    ap (count_of j) (change_get (one_more k) agents b.0 a.0)
    ∙ under (count_of j) (eqb a.0 b.0) (option_map (one_more k) (slice_get agents a.0)) (slice_get agents a.0)
    ∙ elim (eqb a.0 b.0) as (λ c. eqb a.0 b.0 ≡ c → cond c (count_of j (option_map (one_more k) (slice_get agents a.0))) (count_of j (slice_get agents a.0)) ≡ count_of j (slice_get agents a.0) + bit (is_queue_of j (Some k) && c)) [
      | true ↦ λ is. let same : a.0 ≡ b.0 = eqb-true a.0 b.0 is in there (slice_get agents a.0) (is_there agents a.0 (omega arith)) ∙ bit_plus (is_queue_of j (Some k)) true (count_of j (slice_get agents a.0))
      | false ↦ λ is. bit_plus (is_queue_of j (Some k)) false (count_of j (slice_get agents a.0))
    ] refl
  where
    there : (o : Option Agent) → (o ≡ None → ⊥) → count_of j (option_map (one_more k) o) ≡ count_of j o + bit (is_queue_of j (Some k))
    there None some = absurd (some refl)
    there (Some x) some = more_by j k x

-- ---- what steps make of the counts

-- no end changes in what is counted
pub counted_same : {agents : List Agent} {f g : Facts} → g.ends ≡ f.ends → ((j : Kind) (a : AgentId) (d : ℕ) → counts_at (is_queue_of j) a (g.end d) ≡ counts_at (is_queue_of j) a (f.end d)) → ((a : AgentId) (x : ℕ) → x < f.ends → IsCalmAt a f g x) → Counted agents f → Counted agents g
counted_same {f = f} {g = g} ends each calm h = record {
  queues = λ j a. h.queues j a ∙ sym (count_same (is_queue_of j) a f g ends (each j a));
  away = λ a. h.away a ∙ sym (away_same a f g ends (calm a));
}

-- ports alone went to another place
moved_port : (j : Kind) (a : AgentId) (b : Bool) (q p : Option Place) (k : Option Kind) → (b ≡ true → is_some (peer_of k) ≡ true) → (is_queue_of j k && is_with a (cond b q p)) ≡ (is_queue_of j k && is_with a p)
moved_port j a true q p k port = ap (λ t. t && is_with a q) (no_queue j k (port refl)) ∙ sym (ap (λ t. t && is_with a p) (no_queue j k (port refl)))
  where
    no_queue : (j : Kind) (k : Option Kind) → is_some (peer_of k) ≡ true → is_queue_of j k ≡ false
    no_queue Client (Some Client) h = absurd (false≢true h)
    no_queue Worker (Some Worker) h = absurd (false≢true h)
    no_queue _ _ h = refl
moved_port j a false q p k port = refl

pub counts_still : {agents : List Agent} {ends : List End} {f g : Facts} → SoundlyShows agents ends f → g.ends ≡ f.ends → ((d : ℕ) → (g.end d).kind ≡ (f.end d).kind) → ((d : ℕ) → (g.end d).place ≡ (f.end d).place) → ((a : AgentId) (d l : ℕ) → is_away_of g a d l ≡ is_away_of f a d l) → Counted agents g
counts_still h same kinds places calm = counted_same same (λ j a d. rw (kinds d, places d) refl) (λ a x less. (ap lines_of (kinds x), calm a x)) (counts_of h)

pub counted_ports : {agents : List Agent} {f g : Facts} (moved : ℕ → Bool) (place : ℕ → Option Place) → g.ends ≡ f.ends → ((d : ℕ) → (g.end d).kind ≡ (f.end d).kind) → ((d : ℕ) → (g.end d).place ≡ cond (moved d) (place d) (f.end d).place) → ((d : ℕ) → moved d ≡ true → is_some (peer_of (f.end d).kind) ≡ true) → ((a : AgentId) (x : ℕ) → x < f.ends → IsCalmAt a f g x) → Counted agents f → Counted agents g
counted_ports {f = f} moved place ends kinds places ports calm h = counted_same ends (λ j a d. rw (kinds d, places d) (moved_port j a (moved d) (place d) (f.end d).place (f.end d).kind (ports d))) calm h

-- one end went from a place to one where no agent has it
pub counted_went : {f g : Facts} {e : ℕ} {k : Kind} {p : Place} {q : Option Place} (agents : List Agent) → OneEnd f g e 0 k (Some p) q → ((a : AgentId) → is_with a q ≡ false) → ((a : AgentId) (x : ℕ) → x < f.ends → IsCalmAt a f g x) → Counted agents f → Counted (gone k p agents) g
counted_went {f = f} {g = g} {k = k} {p = p} {q = q} agents w nowhere calm h = record {
  queues = λ j a. by_kind j a (h.queues j a);
  away = λ a. gone_each kept_away (λ x c d. refl) k p agents a.0 ∙ h.away a ∙ sym (away_same a f g (w.ends ∙ omega arith) (calm a));
}
  where
    by_kind : (j : Kind) (a : AgentId) → count_of j (slice_get agents a.0) ≡ count_with (is_queue_of j) a f → count_of j (slice_get (gone k p agents) a.0) ≡ count_with (is_queue_of j) a g
    by_kind j a old =
        let sum = one_end w (is_queue_of j) a in
        let now : bit (is_queue_of j (Some k) && is_with a q) ≡ 0 = ap (λ c. bit (is_queue_of j (Some k) && c)) (nowhere a) ∙ ap bit (and-false (is_queue_of j (Some k))) in
        let less = gone_count j k p agents a in
        omega (arith, sum, now, less, old)

-- ---- posters that come and go

total_bound : (w : ℕ → ℕ) (n k : ℕ) → k ≡ 32 → ((x : ℕ) → w x ≤ k) → total w n ≤ 32 * n
total_bound w zero k is each = omega arith
total_bound w (suc n) k is each =
    let rest : total w n ≤ 32 * n = total_bound w n k is each in
    let last : w n ≤ k = each n in
    omega arith

one_bit : (b : Bool) → cond b 1 0 ≤ 1
one_bit true = omega arith
one_bit false = omega arith

bits_bound : (test : ℕ → Bool) (n : ℕ) → total (λ l. cond (test l) 1 0) n ≤ n
bits_bound test zero = omega arith
bits_bound test (suc n) =
    let rest : total (λ l. cond (test l) 1 0) n ≤ n = bits_bound test n in
    let last : cond (test n) 1 0 ≤ 1 = one_bit (test n) in
    omega arith

lines_bound : (k : Option Kind) → lines_of k ≤ 32
lines_bound (Some (Port q)) = omega arith
lines_bound _ = omega arith

at_bound : (a : AgentId) (f : Facts) (x : ℕ) → away_at a f x ≤ 32
at_bound a f x =
    let most : away_at a f x ≤ lines_of (f.end x).kind = bits_bound (is_away_of f a x) (lines_of (f.end x).kind) in
    let few : lines_of (f.end x).kind ≤ 32 = lines_bound (f.end x).kind in
    omega arith

-- so many posters the core can count
away_bound : (a : AgentId) (f : Facts) → f.ends ≤ MAX_ENDS → count_away a f < 4294967295
away_bound a f few =
    let most : count_away a f ≤ 32 * f.ends = total_bound (away_at a f) f.ends 32 refl (at_bound a f) in
    omega arith

-- what else is kept of the agent stays
away_each : {A : Type 0} (kept : Option Agent → A) (x : Agent) → kept (Some (record x { away = x.away + 1 })) ≡ kept (Some x) → kept (Some ((counted Inside) x)) ≡ kept (Some x)
away_each kept x same = elim (nat_lt x.away 4294967295) as (λ b. kept (Some (cond b (record x { away = x.away + 1 }) x)) ≡ kept (Some x)) [ true ↦ same | false ↦ refl ]

-- the same of the owner of a poster, where there is one
owner_each : {A : Type 0} (kept : Option Agent → A) (change : Agent → Agent) (owner : Option AgentId) (agents : List Agent) (a : ℕ) → ((x : Agent) → kept (Some (change x)) ≡ kept (Some x)) → kept (slice_get (change_owner change owner agents) a) ≡ kept (slice_get agents a)
owner_each kept change None agents a same = refl
owner_each kept change (Some b) agents a same = change_each kept change agents b.0 a same

pub owner_length : (change : Agent → Agent) (owner : Option AgentId) (agents : List Agent) → length (change_owner change owner agents) ≡ length agents
owner_length change None agents = refl
owner_length change (Some b) agents = change_length change agents b.0

pub owner_now_away : (owner : Option AgentId) (agents : List Agent) (a : ℕ) → agent_now (slice_get (change_owner (counted Inside) owner agents) a) ≡ agent_now (slice_get agents a)
owner_now_away owner agents a = owner_each agent_now (counted Inside) owner agents a (λ x. away_each agent_now x refl)

pub owner_now_out : (owner : Option AgentId) (agents : List Agent) (a : ℕ) → agent_now (slice_get (change_owner (counted Out) owner agents) a) ≡ agent_now (slice_get agents a)
owner_now_out owner agents a = owner_each agent_now (counted Out) owner agents a (λ x. refl)

-- the count of the owner's posters, one more
owner_away : (owner : Option AgentId) (agents : List Agent) (a : AgentId) → ((b : AgentId) → owner ≡ Some b → b.0 < length agents) → kept_away (slice_get agents a.0) < 4294967295 → kept_away (slice_get (change_owner (counted Inside) owner agents) a.0) ≡ kept_away (slice_get agents a.0) + bit (is_holder a owner)
owner_away None agents a known less = omega arith
owner_away (Some b) agents a known less =
    ap kept_away (change_get (counted Inside) agents b.0 a.0)
    ∙ elim (eqb a.0 b.0) as (λ c. eqb a.0 b.0 ≡ c → kept_away (cond c (option_map (counted Inside) (slice_get agents a.0)) (slice_get agents a.0)) ≡ kept_away (slice_get agents a.0) + bit c) [
      | true ↦ λ is.
          let same : a.0 ≡ b.0 = eqb-true a.0 b.0 is in
          let made : b.0 < length agents = known b refl in
          there (slice_get agents a.0) less (is_there agents a.0 (omega arith))
      | false ↦ λ is. omega arith
    ] refl
  where
    there : (o : Option Agent) → kept_away o < 4294967295 → (o ≡ None → ⊥) → kept_away (option_map (counted Inside) o) ≡ kept_away o + 1
    there None under some = absurd (some refl)
    there (Some x) under some = ap (λ b. (cond b (record x { away = x.away + 1 }) x).away) (lt-ltb x.away 4294967295 under)

-- one less
owner_out : (owner : Option AgentId) (agents : List Agent) (a : AgentId) → kept_away (slice_get (change_owner (counted Out) owner agents) a.0) ≡ kept_away (slice_get agents a.0) - bit (is_holder a owner)
owner_out None agents a = omega arith
owner_out (Some b) agents a =
    ap kept_away (change_get (counted Out) agents b.0 a.0)
    ∙ elim (eqb a.0 b.0) as (λ c. kept_away (cond c (option_map (counted Out) (slice_get agents a.0)) (slice_get agents a.0)) ≡ kept_away (slice_get agents a.0) - bit c) [
      | true ↦ less (slice_get agents a.0)
      | false ↦ omega arith
    ]
  where
    less : (o : Option Agent) → kept_away (option_map (counted Out) o) ≡ kept_away o - 1
    less None = refl
    less (Some x) = refl

-- a poster came inside or is being turned back
pub counted_entered : (agents : List Agent) (f g : Facts) (owner : Option AgentId) → f.ends ≤ MAX_ENDS → ((b : AgentId) → owner ≡ Some b → b.0 < length agents) → g.ends ≡ f.ends → ((d : ℕ) → (g.end d).kind ≡ (f.end d).kind) → ((d : ℕ) → (g.end d).place ≡ (f.end d).place) → ((a : AgentId) → count_away a g ≡ count_away a f + bit (is_holder a owner)) → Counted agents f → Counted (change_owner (counted Inside) owner agents) g
counted_entered agents f g owner few known ends kinds places more h = record {
  queues = λ j a. owner_each (count_of j) (counted Inside) owner agents a.0 (λ x. away_each (count_of j) x (same_count j x _ refl refl)) ∙ h.queues j a ∙ sym (count_same (is_queue_of j) a f g ends (λ d. rw (kinds d, places d) refl));
  away = λ a.
      let under : count_away a f < 4294967295 = away_bound a f few in
      let kept : kept_away (slice_get agents a.0) ≡ count_away a f = h.away a in
      owner_away owner agents a known (omega arith) ∙ ap (λ n. n + bit (is_holder a owner)) kept ∙ sym (more a);
}

-- a poster left
pub counted_left : (agents : List Agent) (f g : Facts) (owner : Option AgentId) → g.ends ≡ f.ends → ((d : ℕ) → (g.end d).kind ≡ (f.end d).kind) → ((d : ℕ) → (g.end d).place ≡ (f.end d).place) → ((a : AgentId) → count_away a f ≡ count_away a g + bit (is_holder a owner)) → Counted agents f → Counted (change_owner (counted Out) owner agents) g
counted_left agents f g owner ends kinds places less h = record {
  queues = λ j a. owner_each (count_of j) (counted Out) owner agents a.0 (λ x. same_count j x _ refl refl) ∙ h.queues j a ∙ sym (count_same (is_queue_of j) a f g ends (λ d. rw (kinds d, places d) refl));
  away = λ a.
      let kept : kept_away (slice_get agents a.0) ≡ count_away a f = h.away a in
      let fewer : count_away a f ≡ count_away a g + bit (is_holder a owner) = less a in
      owner_out owner agents a ∙ omega arith;
}

-- the agent that it came to, changed once or twice
adopted_get : (released : Bool) (k : Kind) (agents : List Agent) (b : AgentId) (a : ℕ) → slice_get (change_at (adopting released k) b.0 agents) a ≡ slice_get (cond released (change_at (one_more k) b.0 agents) (change_at (counted Inside) b.0 (change_at (one_more k) b.0 agents))) a
adopted_get true k agents b a = refl
adopted_get false k agents b a =
    change_get (adopting false k) agents b.0 a ∙ twice (eqb a b.0) (slice_get agents a)
    ∙ ap (λ o. cond (eqb a b.0) (option_map (counted Inside) o) o) (sym (change_get (one_more k) agents b.0 a)) ∙ sym (change_get (counted Inside) (change_at (one_more k) b.0 agents) b.0 a)
  where
    twice : (c : Bool) (o : Option Agent) → cond c (option_map (adopting false k) o) o ≡ cond c (option_map (counted Inside) (cond c (option_map (one_more k) o) o)) (cond c (option_map (one_more k) o) o)
    twice true None = refl
    twice _ _ = refl

adopted_each : {A : Type 0} (kept : Option Agent → A) → ((x : Agent) → kept (Some ((counted Inside) x)) ≡ kept (Some x)) → (released : Bool) (k : Kind) (agents : List Agent) (b : AgentId) (a : ℕ) → kept (slice_get (change_at (adopting released k) b.0 agents) a) ≡ kept (slice_get (change_at (one_more k) b.0 agents) a)
adopted_each kept same true k agents b a = refl
adopted_each kept same false k agents b a = ap kept (adopted_get false k agents b a) ∙ change_each kept (counted Inside) (change_at (one_more k) b.0 agents) b.0 a same

pub adopted_now : (released : Bool) (k : Kind) (agents : List Agent) (b : AgentId) (a : ℕ) → agent_now (slice_get (change_at (adopting released k) b.0 agents) a) ≡ agent_now (slice_get agents a)
adopted_now released k agents b a = adopted_each agent_now (λ x. away_each agent_now x refl) released k agents b a ∙ come_now k b agents a

adopted_away : (released : Bool) (k : Kind) (agents : List Agent) (b a : AgentId) → b.0 < length agents → kept_away (slice_get agents a.0) < 4294967295 → kept_away (slice_get (change_at (adopting released k) b.0 agents) a.0) ≡ kept_away (slice_get agents a.0) + bit (not released && eqb a.0 b.0)
adopted_away true k agents b a known less = come_each kept_away (λ x c w. refl) k b agents a.0 ∙ omega arith
adopted_away false k agents b a known less =
    let same : kept_away (slice_get (change_at (one_more k) b.0 agents) a.0) ≡ kept_away (slice_get agents a.0) = come_each kept_away (λ x c w. refl) k b agents a.0 in
    let many : length (change_at (one_more k) b.0 agents) ≡ length agents = come_length k b agents in
    ap kept_away (adopted_get false k agents b a.0)
    ∙ owner_away (Some b) (change_at (one_more k) b.0 agents) a (λ c is. let one : b ≡ c = cc in subst (λ (d : AgentId). d.0 < length (change_at (one_more k) b.0 agents)) one (omega arith)) (omega arith)
    ∙ ap (λ n. n + bit (eqb a.0 b.0)) same

-- one end that no agent had, or a new one, came to an agent, with its own poster away or not
pub counted_came : {f g : Facts} {e more : ℕ} {k : Kind} {p : Option Place} {b : AgentId} (agents : List Agent) (released : Bool) → OneEnd f g e more k p (Some (With b)) → f.ends ≤ MAX_ENDS → b.0 < length agents → ((a : AgentId) → is_with a p ≡ false) → ((a : AgentId) → count_away a g ≡ count_away a f + bit (not released && eqb a.0 b.0))
    → Counted agents f → Counted (change_at (adopting released k) b.0 agents) g
counted_came {f = f} {g = g} {k = k} {p = p} {b = b} agents released w few known nowhere away h = record {
  queues = λ j a. adopted_each (count_of j) (λ x. away_each (count_of j) x (same_count j x _ refl refl)) released k agents b a.0 ∙ by_kind j a (h.queues j a);
  away = λ a.
      let under : count_away a f < 4294967295 = away_bound a f few in
      let kept : kept_away (slice_get agents a.0) ≡ count_away a f = h.away a in
      adopted_away released k agents b a known (omega arith) ∙ ap (λ n. n + bit (not released && eqb a.0 b.0)) kept ∙ sym (away a);
}
  where
    by_kind : (j : Kind) (a : AgentId) → count_of j (slice_get agents a.0) ≡ count_with (is_queue_of j) a f → count_of j (slice_get (change_at (one_more k) b.0 agents) a.0) ≡ count_with (is_queue_of j) a g
    by_kind j a old =
        let sum = one_end w (is_queue_of j) a in
        let then : bit (is_queue_of j (Some k) && is_with a p) ≡ 0 = ap (λ c. bit (is_queue_of j (Some k) && c)) (nowhere a) ∙ ap bit (and-false (is_queue_of j (Some k))) in
        let more = come_count j k b agents a known in
        omega (arith, sum, then, more, old)

-- ==== Who is away: what steps that move ends and lines make of it.

-- a line of a port counts for the agent that has the port, where its poster is away
port_away : (a : AgentId) (out first : Bool) (p q : Option AgentId) → (first ≡ true → (out ≡ true) ⊎ (is_holder a p ≡ is_holder a q)) → (not out && is_holder a (cond first p None)) ≡ (not out && is_holder a (cond first q None))
port_away a true first p q same = refl
port_away a false false p q same = refl
port_away a false true p q same = elim (same refl) [
  | inl out ↦ absurd (false≢true out)
  | inr is ↦ is
]

-- who is away at an end stays where each port that posts there is with the agent as before, or its own poster is out
calm_line : (a : AgentId) (f g : Facts) (x l : ℕ) → g.line x l ≡ f.line x l → (k : Option Kind) → ((q : EndId) → k ≡ Some (Port q) → (is_out (f.line x 0).phase ≡ true) ⊎ (is_with a (g.end q.0).place ≡ is_with a (f.end q.0).place)) → (not (is_out (g.line x l).phase) && is_holder a (owner_by g.end l (g.line x l).held_by k)) ≡ (not (is_out (f.line x l).phase) && is_holder a (owner_by f.end l (f.line x l).held_by k))
calm_line a f g x l line (Some (Port q)) places =
    ap (λ (y : LineNow). not (is_out y.phase) && is_holder a (cond (eqb l 0) (with_agent (g.end q.0).place) None)) line
    ∙ port_away a (is_out (f.line x l).phase) (eqb l 0) (with_agent (g.end q.0).place) (with_agent (f.end q.0).place) (λ first. elim (places q refl) [
      | inl out ↦ inl (ap (λ i. is_out (f.line x i).phase) (eqb-true l 0 first) ∙ out)
      | inr same ↦ inr same
    ])
calm_line a f g x l line (Some (Member b)) places = ap (λ (y : LineNow). not (is_out y.phase) && false) line
calm_line a f g x l line None places = ap (λ (y : LineNow). not (is_out y.phase) && false) line
calm_line a f g x l line _ places = ap (λ (y : LineNow). not (is_out y.phase) && is_holder a y.held_by) line

pub calm_places : (a : AgentId) (f g : Facts) (x : ℕ) → (g.end x).kind ≡ (f.end x).kind → ((l : ℕ) → g.line x l ≡ f.line x l) → ((q : EndId) → (f.end x).kind ≡ Some (Port q) → (is_out (f.line x 0).phase ≡ true) ⊎ (is_with a (g.end q.0).place ≡ is_with a (f.end q.0).place)) → IsCalmAt a f g x
calm_places a f g x kind lines places = (
  ap lines_of kind,
  λ l. ap (λ k. not (is_out (g.line x l).phase) && is_holder a (owner_by g.end l (g.line x l).held_by k)) kind ∙ calm_line a f g x l (lines l) (f.end x).kind places,
)

-- the port that posts at an end is entangled with it
own_line : (f : Facts) (x : ℕ) (q : EndId) → SoundPlaces f → (f.end x).kind ≡ Some (Port q) → peer_of (f.end q.0).kind ≡ Some x
own_line f x q h is = (h.peers x q.0 (ap peer_of is)).1

-- ports whose own posters are out were sent
pub calm_sent : (a : AgentId) (f g : Facts) (moved : ℕ → Bool) (x : ℕ) → SoundPlaces f → (g.end x).kind ≡ (f.end x).kind → ((l : ℕ) → g.line x l ≡ f.line x l) → ((q : ℕ) → (g.end q).place ≡ cond (moved q) (Some InFlight) (f.end q).place) → ((q : ℕ) → moved q ≡ true → is_free f.line (peer_of (f.end q).kind) ≡ true) → IsCalmAt a f g x
calm_sent a f g moved x h kind lines places out = calm_places a f g x kind lines (λ q is. elim (moved q.0) as (λ b. moved q.0 ≡ b → (is_out (f.line x 0).phase ≡ true) ⊎ (is_with a (g.end q.0).place ≡ is_with a (f.end q.0).place)) [
  | true ↦ λ named. inl (free_port_out f (peer_of (f.end q.0).kind) x (own_line f x q h is) (out q.0 named))
  | false ↦ λ other. inr (ap (is_with a) (places q.0 ∙ ap (λ b. cond b (Some InFlight) (f.end q.0).place) other))
] refl)

-- ports that were in flight went to a place where no agent has them
pub calm_landed : (a : AgentId) (f g : Facts) (moved : ℕ → Bool) (place : ℕ → Option Place) (x : ℕ) → (g.end x).kind ≡ (f.end x).kind → ((l : ℕ) → g.line x l ≡ f.line x l) → ((q : ℕ) → (g.end q).place ≡ cond (moved q) (place q) (f.end q).place) → ((q : ℕ) → moved q ≡ true → (f.end q).place ≡ Some InFlight) → ((q : ℕ) → is_with a (place q) ≡ false) → IsCalmAt a f g x
calm_landed a f g moved place x kind lines places flew landed = calm_places a f g x kind lines (λ q is. inr (ap (is_with a) (places q.0) ∙ at_test (λ p. is_with a p ≡ is_with a (f.end q.0).place) (moved q.0) (place q.0) (f.end q.0).place (λ named. landed q.0 ∙ sym (ap (is_with a) (flew q.0 named))) (λ _. refl)))

-- one end went, that is no port or whose own poster is out
pub calm_gone : (a : AgentId) (f g : Facts) (e : ℕ) (p : Option Place) (x : ℕ) → SoundPlaces f → (g.end x).kind ≡ (f.end x).kind → ((l : ℕ) → g.line x l ≡ f.line x l) → ((q : ℕ) → (g.end q).place ≡ cond (eqb q e) p (f.end q).place) → is_released f.line (f.end e).kind ≡ true → IsCalmAt a f g x
calm_gone a f g e p x h kind lines places free = calm_places a f g x kind lines (λ q is. ⊎_elim
    (λ same. inl (released_out f (f.end q.0).kind x (own_line f x q h is) (ap (λ y. is_released f.line (f.end y).kind) same ∙ free)))
    (λ other. inr (ap (is_with a) (places q.0 ∙ ap (λ b. cond b p (f.end q.0).place) (ne_eqb q.0 e other))))
    (cases_eq q.0 e))

-- a number that no line of a port has counts for nobody
far_line : (a : AgentId) (f g : Facts) (d l : ℕ) → (g.end d).kind ≡ (f.end d).kind → g.line d l ≡ f.line d l → eqb l 0 ≡ false → is_away_of g a d l ≡ is_away_of f a d l
far_line a f g d l kind line far = ap (λ k. not (is_out (g.line d l).phase) && is_holder a (owner_by g.end l (g.line d l).held_by k)) kind ∙ by_kind (f.end d).kind
  where
    by_kind : (k : Option Kind) → (not (is_out (g.line d l).phase) && is_holder a (owner_by g.end l (g.line d l).held_by k)) ≡ (not (is_out (f.line d l).phase) && is_holder a (owner_by f.end l (f.line d l).held_by k))
    by_kind (Some (Port q)) = ap (λ c. not (is_out (g.line d l).phase) && is_holder a (cond c (with_agent (g.end q.0).place) None)) far ∙ ap (λ (y : LineNow). not (is_out y.phase) && false) line ∙ sym (ap (λ c. not (is_out (f.line d l).phase) && is_holder a (cond c (with_agent (f.end q.0).place) None)) far)
    by_kind (Some (Member b)) = ap (λ (y : LineNow). not (is_out y.phase) && false) line
    by_kind None = ap (λ (y : LineNow). not (is_out y.phase) && false) line
    by_kind _ = ap (λ (y : LineNow). not (is_out y.phase) && is_holder a y.held_by) line

-- one end came to an agent: a port brings its own poster along
pub came_away : (a b : AgentId) (f g : Facts) (e : ℕ) → SoundPlaces f → e < f.ends → g.ends ≡ f.ends → ((d : ℕ) → (g.end d).kind ≡ (f.end d).kind) → ((d l : ℕ) → g.line d l ≡ f.line d l) → ((q : ℕ) → (g.end q).place ≡ cond (eqb q e) (Some (With b)) (f.end q).place) → is_with a (f.end e).place ≡ false → (k : Option Kind) → (f.end e).kind ≡ k → count_away a g ≡ count_away a f + bit (not (is_released f.line k) && eqb a.0 b.0)
came_away a b f g e h made ends kinds lines places nowhere (Some (Port p)) is =
    let back = h.peers e p.0 (ap peer_of is) in
    let port : (f.end p.0).kind ≡ Some (Port (record { 0 = e })) = port_of (f.end p.0).kind e back.1 in
    let sum : count_away a f + bit (is_away_of g a p.0 0) ≡ count_away a g + bit (is_away_of f a p.0 0) = away_change a f g p.0 0 back.0 (subst (λ n. 0 < n) (ap lines_of (sym port)) (omega arith)) ends kinds (λ d l other. calm d l (eqb l 0) refl other) in
    let old : is_away_of f a p.0 0 ≡ false = ap (λ k. not (is_out (f.line p.0 0).phase) && is_holder a (owner_by f.end 0 (f.line p.0 0).held_by k)) port ∙ ap (λ c. not (is_out (f.line p.0 0).phase) && c) nowhere ∙ and-false (not (is_out (f.line p.0 0).phase)) in
    let new : is_away_of g a p.0 0 ≡ (not (is_out (f.line p.0 0).phase) && eqb a.0 b.0) = ap (λ k. not (is_out (g.line p.0 0).phase) && is_holder a (owner_by g.end 0 (g.line p.0 0).held_by k)) (kinds p.0 ∙ port) ∙ ap (λ (y : LineNow). not (is_out y.phase) && is_with a (g.end e).place) (lines p.0 0) ∙ ap (λ q. not (is_out (f.line p.0 0).phase) && is_with a q) (places e ∙ ap (λ c. cond c (Some (With b)) (f.end e).place) (eqb_same e)) in
    let before : bit (is_away_of f a p.0 0) ≡ 0 = ap bit old in
    let after : bit (is_away_of g a p.0 0) ≡ bit (not (is_out (f.line p.0 0).phase) && eqb a.0 b.0) = ap bit new in
    omega arith
  where
    calm : (d l : ℕ) → (first : Bool) → eqb l 0 ≡ first → (d ≡ p.0 → l ≡ 0 → ⊥) → is_away_of g a d l ≡ is_away_of f a d l
    calm d l true zeroth other = (calm_places a f g d (kinds d) (lines d) (λ q at. inr (ap (is_with a) (places q.0 ∙ ap (λ c. cond c (Some (With b)) (f.end q.0).place) (ne_eqb q.0 e (λ same.
        let mine : peer_of (f.end e).kind ≡ Some d = ap (λ y. peer_of (f.end y).kind) (sym same) ∙ own_line f d q h at in
        let one : p.0 ≡ d = search (rules, sym mine ∙ ap peer_of is) in
        other (sym one) (eqb-true l 0 zeroth))))))).1 l
    calm d l false zeroth other = far_line a f g d l (kinds d) (lines d l) zeroth
came_away a b f g e h made ends kinds lines places nowhere _ is =
    away_same a f g ends (λ x less. calm_gone a f g e (Some (With b)) x h (kinds x) (lines x) places (ap (is_released f.line) is)) ∙ omega arith

-- ---- lines

-- whose poster a line has is as before
owner_same : (f g : Facts) (d l : ℕ) → (g.end d).kind ≡ (f.end d).kind → ((q : ℕ) → (g.end q).place ≡ (f.end q).place) → (g.line d l).held_by ≡ (f.line d l).held_by → owner g d l ≡ owner f d l
owner_same f g d l kind places held = ap (owner_by g.end l (g.line d l).held_by) kind ∙ by_kind (f.end d).kind
  where
    by_kind : (k : Option Kind) → owner_by g.end l (g.line d l).held_by k ≡ owner_by f.end l (f.line d l).held_by k
    by_kind (Some (Port q)) = ap (λ p. cond (eqb l 0) (with_agent p) None) (places q.0)
    by_kind (Some (Member b)) = refl
    by_kind None = refl
    by_kind _ = held

either_place : (x e l k : ℕ) → (x ≡ e → l ≡ k → ⊥) → (eqb x e && eqb l k) ≡ false
either_place x e l k other = elim (eqb x e) as (λ b. eqb x e ≡ b → (b && eqb l k) ≡ false) [
  | true ↦ λ is. ne_eqb l k (other (eqb-true x e is))
  | false ↦ λ is. refl
] refl

-- one line comes to another phase
pub phase_away : (a : AgentId) (f g : Facts) (s : Sender) (p : Phase) → s.end.0 < f.ends → s.line.0 < lines_of (f.end s.end.0).kind → g.ends ≡ f.ends → ((d : ℕ) → (g.end d).kind ≡ (f.end d).kind) → ((d : ℕ) → (g.end d).place ≡ (f.end d).place) → ((d l : ℕ) → (g.line d l).held_by ≡ (f.line d l).held_by) → ((d l : ℕ) → (g.line d l).phase ≡ on_line d l s p (f.line d l).phase) → count_away a f + bit (not (is_out p) && is_holder a (owner f s.end.0 s.line.0)) ≡ count_away a g + bit (is_away_of f a s.end.0 s.line.0)
phase_away a f g s p made low ends kinds places held phases =
    let e : ℕ = s.end.0 in
    let k : ℕ = s.line.0 in
    let here : (g.line e k).phase ≡ p = phases e k ∙ ap (λ b. cond b p (f.line e k).phase) (ap (λ b. b && eqb k k) (eqb_same e) ∙ eqb_same k) in
    let new : is_away_of g a e k ≡ (not (is_out p) && is_holder a (owner f e k)) = ap (λ q. not (is_out q) && is_holder a (owner g e k)) here ∙ ap (λ q. not (is_out p) && is_holder a q) (owner_same f g e k (kinds e) places (held e k)) in
    let sum : count_away a f + bit (is_away_of g a e k) ≡ count_away a g + bit (is_away_of f a e k) = away_change a f g e k made low ends kinds (λ d l other.
    ap (λ q. not (is_out q) && is_holder a (owner g d l)) (phases d l ∙ ap (λ b. cond b p (f.line d l).phase) (either_place d e l k other)) ∙ ap (λ q. not (is_out (f.line d l).phase) && is_holder a q) (owner_same f g d l (kinds d) places (held d l)))
    in
    sym (ap (λ b. count_away a f + bit b) new) ∙ sum

-- a line that is out gets another holder, or none
pub calm_held : (a : AgentId) (f g : Facts) (t : Sender) (holder : Option AgentId) → is_out (f.line t.end.0 t.line.0).phase ≡ true → ((d : ℕ) → (g.end d).kind ≡ (f.end d).kind) → ((d : ℕ) → (g.end d).place ≡ (f.end d).place) → ((d l : ℕ) → (g.line d l).phase ≡ (f.line d l).phase) → ((d l : ℕ) → (g.line d l).held_by ≡ on_line d l t holder (f.line d l).held_by) → (d l : ℕ) → is_away_of g a d l ≡ is_away_of f a d l
calm_held a f g t holder out kinds places phases held d l = elim (eqb d t.end.0 && eqb l t.line.0) as (λ b. (eqb d t.end.0 && eqb l t.line.0) ≡ b → is_away_of g a d l ≡ is_away_of f a d l) [
  | true ↦ λ is.
      let here : is_out (f.line d l).phase ≡ true = on_place (λ x i. is_out (f.line x i).phase ≡ true) t d l is out in
      ap (λ q. not (is_out q) && is_holder a (owner g d l)) (phases d l) ∙ ap (λ b. not b && is_holder a (owner g d l)) here ∙ sym (ap (λ b. not b && is_holder a (owner f d l)) here)
  | false ↦ λ other.
      ap (λ q. not (is_out q) && is_holder a (owner g d l)) (phases d l) ∙ ap (λ q. not (is_out (f.line d l).phase) && is_holder a q) (owner_same f g d l (kinds d) places (held d l ∙ ap (λ b. cond b holder (f.line d l).held_by) other))
] refl

-- a free line of a queue is out
pub free_out : (f : Facts) (s : Sender) → SoundPlaces f → is_queue (f.end s.end.0).kind ≡ true → (f.line s.end.0 s.line.0).held_by ≡ None → is_out (f.line s.end.0 s.line.0).phase ≡ true
free_out f s h queue free = elim (is_out (f.line s.end.0 s.line.0).phase) as (λ b. is_out (f.line s.end.0 s.line.0).phase ≡ b → b ≡ true) [
  | true ↦ λ is. refl
  | false ↦ λ away. elim (hears_of f s (h.away s away)) [
    | inl k ↦ absurd (no_port (f.end s.end.0).kind k.peer queue k.entangled)
    | inr other ↦ elim other [
      | inl k ↦ absurd (search (rules, sym free ∙ k.held))
      | inr k ↦ absurd (no_member (f.end s.end.0).kind k.1.maker queue k.1.member)
    ]
  ]
] refl

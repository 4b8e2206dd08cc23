-- Broadcast channels: what their steps are answered, and the roster, agents and ends that they and the other steps leave.
use Rattle.std.proofs.Common.{Bool, List, None, Option, Some, [], ap, append-nil, arith, cond, eqb, false, length, length-append, map, ne_eqb, not, refl, rules, subst, sym, true, ℕ, ◌&&◌, ◌++◌, ◌+◌, ◌<◌, ◌∙◌, ◌∷◌, ◌≡◌}
use Rattle.hub_core.proofs.Words.{Action, AgentId, AllByRecursion, Answers, CastNow, Client, EndId, Facts, Group, IsFirst, IsMemberNow, Kind, Member, MemberLeaves, Outcome, PartLeaves, Port, Roster, RosterNow, SameRoster, ShowsRoster, Sound, SoundPlaces, Worker, IsSomeAnd, Joins, unwrap_or, option_map, agents_after, destinations_of, ends, facts, false≢true, filter, get, group_named, group_of, has_end, insert_key, is_casting, is_in, is_of_group, is_same_group, kind_after, leaves, nat_cmp, nat_tests, numbers, numbers_of, numbers_with}
use Rattle.hub_core.proofs.Words.{others_of, parted, roster_after, seated_without, slice_get, ◌==◌, is_some, Agent, End, maker_of, holder, is_empty, destinations, CoreState, Members, seen, kept_destinations, cast_to, is_seated}
use Rattle.hub_core.specs.Legal.{agent_answer, cast_answer, part_answer}
use Rattle.hub_core.specs.declared.step.Action.TheVariants as action
use Rattle.hub_core.specs.declared.step.Outcome.TheVariants as outcome
use Rattle.hub_core.proofs.SoundPlaces.{kind_next}
use Rattle.hub_core.proofs.Nexts.{member_made_of, new_agent, hit, both_tests, next, Change, cast_begun}
use Rattle.hub_core.proofs.Items.{eqb_same, each_pushed}
use Rattle.hub_core.proofs.Seats.{all_at, all_more, all_without, group_flips, group_same, insert_last, is_in_with, numbers_below, numbers_less, numbers_more, numbers_same, others_with}
use Rattle.hub_core.proofs.Speakers.{kind_made, old_one, made_by}
use Rattle.hub_core.proofs.Frames.{ShownWith, Stepped}
use Rattle.hub_core.proofs.Seeing.{SoundlyShows, with_roster, Sees, seen_is}

-- ==== Broadcast channels: what their steps are answered, and the roster that they and the other steps leave.

-- ---- the first roster

pub roster_first : (r : Roster) → IsFirst r → ShowsRoster r (facts [])
roster_first r h = record {
  agents = ap length h.origins;
  origins = λ a. sym (ap (λ xs. unwrap_or (slice_get xs a) None) h.origins);
  groups = λ x a is. absurd (search (rules, is));
  seated = h.seated;
  each = tt;
  cast = sym h.cast;
}

pub same_members : (n : ℕ) (r s : Roster) → s ≡ r → SameRoster n r s
same_members n r s same = record {
  members = record {
    origins = ap (λ (t : Roster). t.members.origins) same;
    groups = λ x _. ap (λ (t : Roster). group_of t.members x) same;
    seated = λ k. ap (λ (t : Roster). numbers_of t.members k) same;
  };
  cast = ap (λ (t : Roster). t.cast) same;
}

-- ---- steps that leave the roster

-- the actions that leave the roster as it is
abbrev pub leaves_roster : Action → Bool
leaves_roster (action.Agent origin) = false
leaves_roster (action.Member a name) = false
leaves_roster (action.Leave s) = false
leaves_roster (action.Cast e ports body) = false
leaves_roster (action.Part e) = false
leaves_roster _ = true

-- what stays of the facts: roster and agents, and which ends are broadcast channels
pub record Stays (f g : Facts) : Type 0 where
  roster : g.roster ≡ f.roster
  agents : g.agents ≡ f.agents
  kept : (x : ℕ) (k : Kind) → (f.end x).kind ≡ Some k → (g.end x).kind ≡ Some k
  old : (x : ℕ) (a : AgentId) → (g.end x).kind ≡ Some (Member a) → (f.end x).kind ≡ Some (Member a)

-- an end that isn't the new one
not_new : (b : Bool) (u : Kind) (p : Option Kind) (a : AgentId) → (Some u ≡ Some (Member a) → ⊥) → cond b (Some u) p ≡ Some (Member a) → p ≡ Some (Member a)
not_new true u p a other is = absurd (other is)
not_new false u p a other is = is

same_roster : (r : RosterNow) (o : Outcome) (a : Action) → leaves_roster a ≡ true → roster_after r o a ≡ r
same_roster r (outcome.Agent n) (action.Agent origin) leaves = absurd (false≢true leaves)
same_roster r (outcome.End e) (action.Member a name) leaves = absurd (false≢true leaves)
same_roster r (outcome.Destinations ends) (action.Cast e ports body) leaves = absurd (false≢true leaves)
same_roster r outcome.Left (action.Leave s) leaves = absurd (false≢true leaves)
same_roster r outcome.Done (action.Part e) leaves = absurd (false≢true leaves)
same_roster r o a leaves = refl

same_agents : (n : ℕ) (o : Outcome) (a : Action) → leaves_roster a ≡ true → agents_after n o a ≡ n
same_agents n (outcome.Agent b) (action.Agent origin) leaves = absurd (false≢true leaves)
same_agents n o a leaves = refl

old_member : (x : ℕ) (p : Option Kind) (o : Outcome) (a : Action) → leaves_roster a ≡ true → (b : AgentId) → kind_after x p o a ≡ Some (Member b) → p ≡ Some (Member b)
old_member x p (outcome.Ends e e') (action.Channel a) leaves b is = not_new (eqb x e'.0) (Port e) p b (λ no. cc) (not_new (eqb x e.0) (Port e') (cond (eqb x e'.0) (Some (Port e)) p) b (λ no. cc) is)
old_member x p (outcome.End e) (action.Client a) leaves b is = not_new (eqb x e.0) Client p b (λ no. cc) is
old_member x p (outcome.End e) (action.Worker a) leaves b is = not_new (eqb x e.0) Worker p b (λ no. cc) is
old_member x p (outcome.End e) (action.Member a name) leaves b is = absurd (false≢true leaves)
old_member x p o a leaves b is = is

pub stays : (f : Facts) (a : Action) (refused : Bool) (o : Outcome) → Sound f → Answers f a refused o → leaves_roster a ≡ true → Stays f (next f a o)
stays f a refused o h fits leaves = record {
  roster = same_roster f.roster o a leaves;
  agents = same_agents f.agents o a leaves;
  kept = λ x k is. kind_next f refused o a fits x (kind_made f x k h.places is) ∙ is;
  old = λ x b is. old_member x (f.end x).kind o a leaves b is;
}

-- the members where what is said of them stays
members_still : (f g : Facts) → ((x : ℕ) (k : Kind) → (f.end x).kind ≡ Some k → (g.end x).kind ≡ Some k) → ((x : ℕ) (a : AgentId) → (f.end x).kind ≡ Some (Member a) → g.roster.group x ≡ f.roster.group x) → (ys : List EndId) → AllByRecursion (IsMemberNow f) ys → AllByRecursion (IsMemberNow g) ys
members_still f g kinds groups [] h = tt
members_still f g kinds groups (y ∷ ys) h = (
  record { maker = h.0.maker; kind = kinds y.0 (Member h.0.maker) h.0.kind; group = h.0.group; is = groups y.0 h.0.maker h.0.kind ∙ h.0.is },
  members_still f g kinds groups ys h.1,
)

-- ---- an agent more

pub roster_agent : (r : Roster) (f : Facts) (origin : Option (List ℕ)) (refused : Bool) (n : AgentId) → ShowsRoster r f → outcome.Agent n ≡ agent_answer f refused → ShowsRoster (record r { members = record r.members { origins = r.members.origins ++ origin ∷ [] } }) (next f (action.Agent origin) (outcome.Agent n))
roster_agent r f origin refused n h fits =
    let number : n.0 ≡ f.agents = new_agent f refused n fits in
    record {
      agents = length-append r.members.origins (origin ∷ []) ∙ ap (λ m. m + 1) h.agents;
      origins = λ a.
          ap (λ b. cond b origin (f.roster.origin a)) (ap (eqb a) (number ∙ sym h.agents))
          ∙ each_pushed (λ x b o. cond b origin (f.roster.origin x) ≡ unwrap_or o None) r.members.origins origin h.origins refl a;
      groups = h.groups;
      seated = h.seated;
      each = members_still f (next f (action.Agent origin) (outcome.Agent n)) (λ x k is. is) (λ x a is. refl) f.roster.members h.each;
      cast = h.cast;
    }

-- ---- the same members

-- another cast
pub recast : (r : Roster) (c : Option CastNow) (f g : Facts) → ShowsRoster r f → g.agents ≡ f.agents → ((x : ℕ) (k : Kind) → (f.end x).kind ≡ Some k → (g.end x).kind ≡ Some k) → ((x : ℕ) (a : AgentId) → (g.end x).kind ≡ Some (Member a) → (f.end x).kind ≡ Some (Member a)) → g.roster ≡ record f.roster { cast = g.roster.cast } → g.roster.cast ≡ c → ShowsRoster (record r { cast = c }) g
recast r c f g h agents kept old roster cast = record {
  agents = h.agents ∙ sym agents;
  origins = λ a. ap (λ (w : RosterNow). w.origin a) roster ∙ h.origins a;
  groups = λ x a is. ap (λ (w : RosterNow). w.group x) roster ∙ h.groups x a (old x a is);
  seated = λ k. h.seated k ∙ ap (λ (w : RosterNow). numbers_with w k w.members) (sym roster);
  each = subst (AllByRecursion (IsMemberNow g)) (ap (λ (w : RosterNow). w.members) (sym roster)) (members_still f g kept (λ x a _. ap (λ (w : RosterNow). w.group x) roster) f.roster.members h.each);
  cast = cast;
}

pub shows_still : (r : Roster) (f g : Facts) → ShowsRoster r f → Stays f g → ShowsRoster r g
shows_still r f g h s = recast r r.cast f g h s.agents s.kept s.old (λ i. record (s.roster i) { cast = g.roster.cast }) (ap (λ (w : RosterNow). w.cast) s.roster ∙ h.cast)

-- ---- a member more

-- the members are below the number of a new end
below_new : (f : Facts) → SoundPlaces f → (ys : List EndId) → AllByRecursion (IsMemberNow f) ys → AllByRecursion (λ (y : EndId). y.0 < f.ends) ys
below_new f h [] each = tt
below_new f h (y ∷ ys) each = (kind_made f y.0 (Member each.0.maker) h each.0.kind, below_new f h ys each.1)

same_groups : (f g : Facts) (n : ℕ) → ((x : ℕ) → x < n → g.roster.group x ≡ f.roster.group x) → (ys : List EndId) → AllByRecursion (λ (y : EndId). y.0 < n) ys → AllByRecursion (λ (y : EndId). g.roster.group y.0 ≡ f.roster.group y.0) ys
same_groups f g n same [] low = tt
same_groups f g n same (y ∷ ys) low = (same y.0 low.0, same_groups f g n same ys low.1)

insert_new : (b : Bool) (numbers with_them : List ℕ) (n : ℕ) → numbers ≡ with_them → AllByRecursion (λ x. x < n) with_them → cond b (insert_key nat_cmp numbers n) numbers ≡ with_them ++ cond b (n ∷ []) []
insert_new true numbers with_them n same low = ap (λ ns. insert_key nat_cmp ns n) same ∙ insert_last with_them n low
insert_new false numbers with_them n same low = same ∙ sym (append-nil with_them)

eqb-flips : (a b : ℕ) → eqb a b ≡ eqb b a
eqb-flips a b = grind (arith, nat_tests)

module _ (r s : Roster) (f : Facts) (a : AgentId) (name : List ℕ) (refused : Bool) (e : EndId) (sound : Sound f) (h : ShowsRoster r f) (fits : Answers f (action.Member a name) refused (outcome.End e)) where
  member_joins : (q : Option Group) → group_named (f.roster.origin a.0) name ≡ q → IsSomeAnd q (λ g. Joins e.0 g r.members s.members) → s.cast ≡ r.cast → ShowsRoster s (next f (action.Member a name) (outcome.End e))
  member_joins None named joins cast = absurd joins
  member_joins (Some k) named joins cast =
      let made = member_made_of f a refused e fits in
      let first : e.0 ≡ f.ends = ap (λ (d : EndId). d.0) made.number in
      let low = below_new f sound.places f.roster.members h.each in
      let lower : AllByRecursion (λ (y : EndId). y.0 < e.0) f.roster.members = subst (λ n. AllByRecursion (λ (y : EndId). y.0 < n) f.roster.members) (sym first) low in
      let after : Facts = next f (action.Member a name) (outcome.End e) in
      let old : (x : ℕ) → x < e.0 → after.roster.group x ≡ f.roster.group x = λ x less. ap (λ b. cond b (group_named (f.roster.origin a.0) name) (f.roster.group x)) (ne_eqb x e.0 (λ same. omega arith)) in
      let here : after.roster.group e.0 ≡ Some k = ap (λ b. cond b (group_named (f.roster.origin a.0) name) (f.roster.group e.0)) (eqb_same e.0) ∙ named in
      record {
        agents = ap length joins.origins ∙ h.agents;
        origins = λ b. h.origins b ∙ ap (λ xs. unwrap_or (slice_get xs b) None) (sym joins.origins);
        groups = λ x b is. elim (eqb x e.0) as (λ c. eqb x e.0 ≡ c → cond c (Some (Member a)) (f.end x).kind ≡ Some (Member b) → cond c (group_named (f.roster.origin a.0) name) (f.roster.group x) ≡ group_of s.members x) [
          | true ↦ λ same _. named ∙ sym (joins.groups x ∙ ap (λ c. cond c (Some k) (group_of r.members x)) (eqb-flips e.0 x ∙ same))
          | false ↦ λ other kind. h.groups x b kind ∙ sym (joins.groups x ∙ ap (λ c. cond c (Some k) (group_of r.members x)) (eqb-flips e.0 x ∙ other))
        ] refl is;
        seated = λ u.
            joins.seated u ∙ insert_new (is_same_group k u) (numbers_of r.members u) (numbers_with f.roster u f.roster.members) e.0 (h.seated u) (numbers_below f.roster u e.0 f.roster.members lower)
            ∙ ap (λ ns. ns ++ cond (is_same_group k u) (e.0 ∷ []) []) (sym (numbers_same f.roster after.roster u f.roster.members (same_groups f after e.0 old f.roster.members lower)))
            ∙ ap (λ b. numbers_with after.roster u f.roster.members ++ cond b (e.0 ∷ []) []) (group_flips k u ∙ ap (is_of_group u) (sym here))
            ∙ sym (numbers_more after.roster u f.roster.members e);
        each = all_more (IsMemberNow after) f.roster.members e
            (members_still f after (λ x u is. rw (old_one f e x made.number (kind_made f x u sound.places is)) is) (λ x b is. old x (let less : x < f.ends = kind_made f x (Member b) sound.places is in omega arith)) f.roster.members h.each)
            (record { maker = a; kind = ap (λ c. cond c (Some (Member a)) (f.end e.0).kind) (eqb_same e.0); group = k; is = here });
        cast = h.cast ∙ sym cast;
      }

pub roster_member : (r s : Roster) (f : Facts) (a : AgentId) (name : List ℕ) (refused : Bool) (e : EndId) → Sound f → ShowsRoster r f → Answers f (action.Member a name) refused (outcome.End e) → MemberLeaves a.0 name r (outcome.End e) s → ShowsRoster s (next f (action.Member a name) (outcome.End e))
roster_member r s f a name refused e sound h fits leaves =
    member_joins r s f a name refused e sound h fits (group_named (unwrap_or (slice_get r.members.origins a.0) None) name) (ap (λ q. group_named q name) (h.origins a.0)) leaves.0 leaves.1

-- ---- who has a seat

-- whether a member of a group that is found has its seat
abbrev seated_in : Members → ℕ → Option Group → Bool
seated_in m n found = unwrap_or (option_map (λ g. is_in n (numbers_of m g)) found) false

-- whether a member has its seat is what the facts say
pub seated_kept : (r : Roster) (f : Facts) (x : ℕ) → ShowsRoster r f → seated_in r.members x (group_of r.members x) ≡ has_end x f.roster.members
seated_kept r f x h = elim (has_end x f.roster.members) as (λ b. has_end x f.roster.members ≡ b → seated_in r.members x (group_of r.members x) ≡ b) [
  | true ↦ λ there.
      let at = all_at (IsMemberNow f) x f.roster.members h.each there in
      ap (seated_in r.members x) (sym (h.groups x at.maker at.kind) ∙ at.is) ∙ ap (is_in x) (h.seated at.group) ∙ is_in_with f.roster at.group x f.roster.members
      ∙ ap (λ c. c && is_of_group at.group (f.roster.group x)) there ∙ ap (is_of_group at.group) at.is ∙ group_same at.group
  | false ↦ λ none. never_seated none (group_of r.members x)
] refl
  where
    never_seated : has_end x f.roster.members ≡ false → (o : Option Group) → seated_in r.members x o ≡ false
    never_seated none None = refl
    never_seated none (Some g) = ap (is_in x) (h.seated g) ∙ is_in_with f.roster g x f.roster.members ∙ ap (λ c. c && is_of_group g (f.roster.group x)) none

pub destinations_by : (r : Roster) (f : Facts) (x : ℕ) → ShowsRoster r f → (o : Option Group) → map (λ n. let e : EndId = record { 0 = n } in e) (unwrap_or (option_map (others_of r.members x) o) []) ≡ unwrap_or (option_map (destinations_of f x) o) []
destinations_by r f x h None = refl
destinations_by r f x h (Some g) = ap (λ ns. map (λ n. let e : EndId = record { 0 = n } in e) (filter (λ n. not (n == x)) ns)) (h.seated g) ∙ others_with f.roster g x f.roster.members

-- ---- a member less

pub roster_part : (r s : Roster) (f : Facts) (e : EndId) → ShowsRoster r f → outcome.Done ≡ part_answer (has_end e.0 f.roster.members) f → PartLeaves e.0 r outcome.Done s → ShowsRoster s (next f (action.Part e) outcome.Done)
roster_part r s f e h fits leaves =
    let there : has_end e.0 f.roster.members ≡ true = (both_tests (has_end e.0 f.roster.members) (is_casting f) (hit (has_end e.0 f.roster.members && not (is_casting f)) fits (λ is. cc)).0).0 in
    let at = all_at (IsMemberNow f) e.0 f.roster.members h.each there in
    let after : Facts = next f (action.Part e) outcome.Done in
    let group : group_of r.members e.0 ≡ Some at.group = sym (h.groups e.0 at.maker at.kind) ∙ at.is in
    record {
      agents = ap length leaves.0.origins ∙ h.agents;
      origins = λ b. h.origins b ∙ ap (λ xs. unwrap_or (slice_get xs b) None) (sym leaves.0.origins);
      groups = λ x a is. h.groups x a is ∙ ap (λ m. get nat_cmp m x) (sym leaves.0.groups);
      seated = λ k.
          leaves.0.seated k ∙ ap (λ q. parted e.0 q k (numbers_of r.members k)) group ∙ ap (λ ns. cond (is_same_group at.group k) (seated_without e.0 ns) ns) (h.seated k)
          ∙ ap (λ b. cond b (seated_without e.0 (numbers_with f.roster k f.roster.members)) (numbers_with f.roster k f.roster.members)) (group_flips at.group k ∙ ap (is_of_group k) (sym at.is))
          ∙ sym (numbers_less f.roster k e.0 f.roster.members);
      each = all_without (IsMemberNow after) e.0 f.roster.members (members_still f after (λ x k is. is) (λ x a is. refl) f.roster.members h.each);
      cast = h.cast ∙ sym leaves.1;
    }

-- ==== What the steps of broadcast channels are answered, and the agents and ends that they leave, are what the facts say.

-- ---- another roster

-- ---- Cast

abbrev cast_by : Bool → Bool → Bool → Bool → Bool → List EndId → Outcome
cast_by made casting seated held none ends = cond (not (made && not casting)) outcome.NotNow (cond (not seated) outcome.InvalidState (cond (not held) outcome.NotNow (cond (not none) outcome.NotTransferable (outcome.Destinations ends))))

cast_tests : (made casting seated held none : Bool) (ds es : List EndId) → (made ≡ true → ds ≡ es) → cast_by made casting seated held none ds ≡ cast_by made casting seated held none es
cast_tests true casting seated held none ds es same = ap (cast_by true casting seated held none) (same refl)
cast_tests false casting seated held none ds es same = refl

pub cast_fits : {c : CoreState} {f : Facts} (e : EndId) (ports : List EndId) → Sees c f → (let m : Members = c.roster.members in cast_answer (is_seated m e.0) (kept_destinations m e.0) (seen c) e ports ≡ cast_answer (has_end e.0 f.roster.members) (destinations f e.0) f e ports)
cast_fits {c} {f} e ports h =
    let m : Members = c.roster.members in
    ap (λ g. cast_answer (is_seated m e.0) (kept_destinations m e.0) g e ports) (seen_is h)
    ∙ ap (λ b. cast_answer b (kept_destinations m e.0) f e ports) (seated_kept c.roster f e.0 h.roster)
    ∙ cast_tests (is_some (maker_of (f.end e.0).kind)) (is_casting f) (has_end e.0 f.roster.members && not (f.end e.0).closed) (is_some (holder f e.0)) (is_empty ports) (kept_destinations m e.0) (destinations f e.0)
    (λ made. let by = made_by (f.end e.0).kind made in (destinations_by c.roster f e.0 h.roster (group_of m e.0) ∙ ap (λ o. unwrap_or (option_map (destinations_of f e.0) o) []) (sym (h.roster.groups e.0 by.0 by.1))))

pub cast_changes : {c : CoreState} {f : Facts} (e : EndId) (ports : List EndId) (body : List ℕ) (refused : Bool) {o : Outcome} → Sees c f → o ≡ cast_answer (has_end e.0 f.roster.members) (destinations f e.0) f e ports → Change (action.Cast e ports body) o → ShownWith c f (action.Cast e ports body) refused o
cast_changes {c} {f} e ports body refused h answer (cast_begun d ps b ends) = (
  record { fits = answer; shows = with_roster (next f (action.Cast e ports body) (outcome.Destinations ends)).roster h.shows.shown },
  recast c.roster (cast_to e body ends) f (next f (action.Cast e ports body) (outcome.Destinations ends)) h.roster refl (λ x k is. is) (λ x a is. is) refl refl,
)

-- ---- Part

pub part_answered : {c : CoreState} {f : Facts} (e : EndId) → Sees c f → part_answer (is_seated c.roster.members e.0) (seen c) ≡ part_answer (has_end e.0 f.roster.members) f
part_answered {c} {f} e h = ap (part_answer (is_seated c.roster.members e.0)) (seen_is h) ∙ ap (λ b. part_answer b f) (seated_kept c.roster f e.0 h.roster)

pub part_shown : {agents : List Agent} {ends : List End} {f : Facts} (e : EndId) (refused : Bool) → SoundlyShows agents ends f → outcome.Done ≡ part_answer (has_end e.0 f.roster.members) f → Stepped agents ends f (action.Part e) refused outcome.Done
part_shown {f} e refused h answer = record { fits = answer; shows = with_roster (next f (action.Part e) outcome.Done).roster h.shown }

-- a cast that passes each test goes to the destinations
pub cast_goes : (f : Facts) (e : EndId) (ports ds : List EndId) (seated : Bool) → is_some (maker_of (f.end e.0).kind) ≡ true → is_casting f ≡ false → seated ≡ true → (f.end e.0).closed ≡ false → is_some (holder f e.0) ≡ true → is_empty ports ≡ true → outcome.Destinations ds ≡ cast_answer seated ds f e ports
cast_goes f e ports ds seated made casting seat opened held none = rw (made, casting, seat, opened, held, none) refl

pub none_listed : (ports : List EndId) → eqb (length ports) 0 ≡ true → is_empty ports ≡ true
none_listed [] h = refl
none_listed (p ∷ ps) h = absurd (search (rules, nat_tests, h))

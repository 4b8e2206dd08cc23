-- What the core keeps of the roster.
use Rattle.std.specs.Prelude.{if◌then◌else◌, ◌<◌, ◌==◌, ◌∷◌, ◌≡◌}
use Rattle.hub_core.specs.Words.{BTreeSet, Bool, EndId, Group, List, None, Option, Ordering, Outcome, Some, [], false, filter, get, insert_key, list_any, map, nat_cmp, not, ordering_then, slice_cmp, slice_get, ℕ, IsSomeAnd, option_map, unwrap_or}
use Rattle.hub_core.specs.declared.roster.Members.{Members}
use Rattle.hub_core.specs.declared.roster.Roster.{Roster}
use Rattle.hub_core.specs.Notions.{RosterNow, is_same_group, is_of_group, group_named}
use Rattle.hub_core.specs.declared.step.Outcome.TheVariants as outcome

-- by origin, then by name
abbrev pub group_cmp : Group → Group → Ordering
group_cmp x y = ordering_then (slice_cmp nat_cmp x.origin y.origin) (slice_cmp nat_cmp x.name y.name)

abbrev pub numbers_in : Option (BTreeSet ℕ) → List ℕ
numbers_in None = []
numbers_in (Some s) = s.keys

abbrev pub numbers_of : Members → Group → List ℕ
numbers_of m k = numbers_in (get group_cmp m.seated k)

abbrev pub group_of : Members → ℕ → Option Group
group_of m x = get nat_cmp m.groups x

abbrev pub seated_with : Group → ℕ → Group → List ℕ → List ℕ
seated_with g n k numbers = if is_same_group g k then insert_key nat_cmp numbers n else numbers

-- the numbers without the first that is this one
abbrev pub seated_without : ℕ → List ℕ → List ℕ
seated_without n [] = []
seated_without n (x ∷ xs) = if n == x then xs else x ∷ seated_without n xs

abbrev pub is_in : ℕ → List ℕ → Bool
is_in n xs = list_any (λ x. n == x) xs

-- whether a member has its seat in its group
abbrev pub is_seated : Members → ℕ → Bool
is_seated m n = unwrap_or (option_map (λ g. is_in n (numbers_of m g)) (group_of m n)) false

-- an end has joined a group
pub record Joins (n : ℕ) (g : Group) (old new : Members) : Type 0 where
  pub origins : new.origins ≡ old.origins
  pub groups : (x : ℕ) → group_of new x ≡ (if n == x then Some g else group_of old x)
  pub seated : (k : Group) → numbers_of new k ≡ seated_with g n k (numbers_of old k)

-- the same members, among the ends below a number
pub record SameMembers (n : ℕ) (old new : Members) : Type 0 where
  pub origins : new.origins ≡ old.origins
  pub groups : (x : ℕ) → x < n → group_of new x ≡ group_of old x
  pub seated : (k : Group) → numbers_of new k ≡ numbers_of old k

-- the numbers of the group without those that have parted
abbrev pub parted : ℕ → Option Group → Group → List ℕ → List ℕ
parted n None k numbers = numbers
parted n (Some g) k numbers = if is_same_group g k then seated_without n numbers else numbers

pub record Parts (n : ℕ) (old new : Members) : Type 0 where
  pub origins : new.origins ≡ old.origins
  pub groups : new.groups ≡ old.groups
  pub seated : (k : Group) → numbers_of new k ≡ parted n (group_of old n) k (numbers_of old k)

-- the other members of the end's group that have their seats
abbrev pub others_of : Members → ℕ → Group → List ℕ
others_of m n g = filter (λ x. not (x == n)) (numbers_of m g)

-- the numbers of those of the ends that are of the group
abbrev pub numbers_with : RosterNow → Group → List EndId → List ℕ
numbers_with r k ends = map (λ y. y.0) (filter (λ y. is_of_group k (r.group y.0)) ends)

-- the same roster, among the ends below a number
pub record SameRoster (n : ℕ) (old new : Roster) : Type 0 where
  pub members : SameMembers n old.members new.members
  pub cast : new.cast ≡ old.cast

-- the destinations of a cast of the end
abbrev pub kept_destinations : Members → ℕ → List EndId
kept_destinations m x = map (λ n. record { 0 = n }) (unwrap_or (option_map (others_of m x) (group_of m x)) [])

-- a roster with no agent, no member and no cast
pub record IsFirst (r : Roster) : Type 0 where
  pub origins : r.members.origins ≡ []
  pub seated : (k : Group) → numbers_of r.members k ≡ []
  pub cast : r.cast ≡ None

-- the roster after the agent made a channel of this name, or no change
abbrev pub MemberLeaves : ℕ → List ℕ → Roster → Outcome → Roster → Type 0
MemberLeaves a name old (outcome.End e) new =
    IsSomeAnd (group_named (unwrap_or (slice_get old.members.origins a) None) name) (λ g. Joins e.0 g old.members new.members) × (new.cast ≡ old.cast)
MemberLeaves a name old _ new = new ≡ old

-- the roster after a member parted, or no change
abbrev pub PartLeaves : ℕ → Roster → Outcome → Roster → Type 0
PartLeaves x old outcome.Done new = Parts x old.members new.members × (new.cast ≡ old.cast)
PartLeaves x old _ new = new ≡ old

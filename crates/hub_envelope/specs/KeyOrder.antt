-- The order in which a body's objects have their members.
use Rattle.std.specs.Prelude.{ℕ, List, [], ◌∷◌}
use Rattle.std.specs.Ordering.{nat_cmp}
use Rattle.std.specs.Cmp.Lexicographic.{slice_cmp}
use Rattle.std.specs.List.Sorted.{IsStrictlySortedBy}
use Rattle.serde_json.specs.Data.{Data, null, boolean, number, string, array, object, Members, no_members, member}
use Rattle.hub_envelope.specs.Everywhere.{Everywhere}

-- the keys of an object, as bytes, in the order in which they stand
abbrev pub keys_of : Members → List (List ℕ)
keys_of no_members = []
keys_of (member k d ms) = k ∷ keys_of ms

-- an object has each key once, in byte order; a value that is no object has nothing to keep
abbrev pub HasSortedKeys : Data → Type 0
HasSortedKeys null = Unit {0}
HasSortedKeys (boolean b) = Unit {0}
HasSortedKeys (number n) = Unit {0}
HasSortedKeys (string s) = Unit {0}
HasSortedKeys (array ds) = Unit {0}
HasSortedKeys (object ms) = IsStrictlySortedBy (slice_cmp nat_cmp) (keys_of ms)

-- each object in the value has each key once, in byte order
abbrev pub IsKeyOrdered : Data → Type 0
IsKeyOrdered = Everywhere HasSortedKeys

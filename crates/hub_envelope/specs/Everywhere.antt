-- A fact of every part of a JSON value.
use Rattle.serde_json.specs.Data.{Data, null, boolean, number, string, array, object, Items, no_items, item, Members, no_members, member}

-- the fact holds of the value, and of each value inside it
abbrev mutual
  pub Everywhere : (Data → Type 0) → Data → Type 0
  Everywhere P null = P null
  Everywhere P (boolean b) = P (boolean b)
  Everywhere P (number n) = P (number n)
  Everywhere P (string s) = P (string s)
  Everywhere P (array ds) = P (array ds) × InEachItem P ds
  Everywhere P (object ms) = P (object ms) × InEachMember P ms

  pub InEachItem : (Data → Type 0) → Items → Type 0
  InEachItem P no_items = Unit {0}
  InEachItem P (item d ds) = Everywhere P d × InEachItem P ds

  pub InEachMember : (Data → Type 0) → Members → Type 0
  InEachMember P no_members = Unit {0}
  InEachMember P (member k d ms) = Everywhere P d × InEachMember P ms

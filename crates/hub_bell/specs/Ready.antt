-- Where the ready bit of an end lies on a board.
use Rattle.std.specs.Prelude.{ℕ, ◌+◌, ◌/◌, ◌%◌, ◌^◌, ◌==◌, Bool, not, bit_and}
use Rattle.hub_envelope.specs.declared.ids.EndId.{EndId}

-- the word that names the groups of words of bits, and the word that says whether the listener sleeps
abbrev pub names_word : ℕ
names_word = 0

abbrev pub asleep_word : ℕ
asleep_word = 8

-- the word that has an end's bit, and that bit. Ends whose numbers differ by a multiple of 65,536 share a bit
abbrev pub bits_word : EndId → ℕ
bits_word end = 16 + (end.0 / 64) % 1024

abbrev pub end_mask : EndId → ℕ
end_mask end = 2 ^ (end.0 % 64)

-- the bit that names the group of the word of the end's bit: 16 words have one name
abbrev pub name_mask : EndId → ℕ
name_mask end = 2 ^ ((end.0 / 1024) % 64)

-- a value has a bit of the mask
abbrev pub is_set : ℕ → ℕ → Bool
is_set value mask = not (bit_and value mask == 0)

-- What was read.
use Rattle.std.proofs.Common.{◌≡◌, ◌⊎◌, ℕ, zero, suc, ◌==◌, Bool, true, false, if◌then◌else◌, rules, slice_index, subst, append_assoc, ◌+◌, ◌*◌, ◌/◌, ◌%◌, ◌<◌, List, [], ◌∷◌, ◌++◌, inl, inr, refl, sym, ap, ◌∙◌, arith}
use Rattle.std.proofs.lemmas.Bool.{cases_lt}
use Rattle.hub_bell.specs.declared.board.BoardStep.{BoardStep}
use Rattle.hub_envelope.specs.declared.ids.EndId.{EndId}
use Rattle.hub_bell.specs.declared.board.BoardStep.TheVariants.{Looked, Took}
use Rattle.hub_bell.specs.Listening.{taking}
use Rattle.hub_bell.specs.Ready.{names_word, bits_word}
use Rattle.hub_bell.specs.Seats.{BoardSeat, Done}
use Rattle.hub_ready.specs.Finding.{HasRead, WasClear, HasStepped, KeepsMarks, HasTaken, IsTaking, MarksTaken, WasEmptied, EmptiesBetween, EmptiesNamed, MarksBit, FindsBetween, FindsAll, MarksFound, MarksOfWord, MarksOfBit, MarksOfNumber}
use Rattle.hub_ready.proofs.BitLemmas.{bit-cases}
use Rattle.std.specs.Int.{bit_at}

pub read-left : (word value : ℕ) (front back : List BoardStep) → HasRead word value front → HasRead word value (front ++ back)
read-left word value [] back read = absurd read
read-left word value (step ∷ front) back read =
    elim read [
      | inl here ↦ inl here
      | inr there ↦ inr (read-left word value front back there)
    ]

pub read-right : (word value : ℕ) (front back : List BoardStep) → HasRead word value back → HasRead word value (front ++ back)
read-right word value [] back read = read
read-right word value (step ∷ front) back read = inr (read-right word value front back read)

pub clear-left : (end : EndId) (front back : List BoardStep) → WasClear end front → WasClear end (front ++ back)
clear-left end front back clear =
    elim clear [
      | inl name ↦ inl (name.0, read-left _ name.0 front back name.1, name.2)
      | inr bit ↦ inr (bit.0, read-left _ bit.0 front back bit.1, bit.2)
    ]

pub clear-right : (end : EndId) (front back : List BoardStep) → WasClear end back → WasClear end (front ++ back)
clear-right end front back clear =
    elim clear [
      | inl name ↦ inl (name.0, read-right _ name.0 front back name.1, name.2)
      | inr bit ↦ inr (bit.0, read-right _ bit.0 front back bit.1, bit.2)
    ]

-- a take has read what it took
pub read-taken : (word found taken : ℕ) → (found ≡ 0 → taken ≡ 0) → HasRead word taken (taking word found taken)
read-taken word zero taken none = inl (refl, sym (none refl))
read-taken word (suc found) taken none =
    let off : (suc found == 0) ≡ false = search rules in
    subst (λ b. HasRead word taken (Looked word (suc found) ∷ (if b then [] else Took word taken ∷ []))) (sym off) (inr (inl (refl, refl)))

-- marks that were kept still have what they had
pub marks-kept : (bit : ℕ) (listed more : List ℕ) (marks new : List ℕ) → MarksBit bit listed marks → more ≡ listed → KeepsMarks marks new → MarksBit bit more new
marks-kept bit listed more marks new marked same keeps end key is leads has =
    keeps.1 key (marked end key is (sym (ap (λ l. slice_index l end.0) same) ∙ leads) (omega (arith, has, keeps.0)))

pub finds-kept : (low high : ℕ) (listed more : List ℕ) (marks new : List ℕ) (steps all : List BoardStep) → FindsBetween low high listed marks steps → more ≡ listed → KeepsMarks marks new → ((end : EndId) → WasClear end steps → WasClear end all) → FindsBetween low high more new all
finds-kept low high listed more marks new steps all finds same keeps clear end key from below leads has =
    elim (finds end key from below (sym (ap (λ l. slice_index l end.0) same) ∙ leads) (omega (arith, has, keeps.0))) [
      | inl marked ↦ inl (keeps.1 key marked)
      | inr was ↦ inr (clear end was)
    ]

pub keeps-both : (a b c : List ℕ) → KeepsMarks a b → KeepsMarks b c → KeepsMarks a c
keeps-both a b c first second = (second.0 ∙ first.0, λ key marked. second.1 key (first.1 key marked))

-- the ends that have their bits in a word whose bits were taken out
pub word-found : (word bits found : ℕ) (listed marks : List ℕ) → (found ≡ 0 → bits ≡ 0) → ((bit : ℕ) → bit < 64 → bit_at bits bit ≡ 1 → MarksBit (word * 64 + bit) listed marks) → FindsBetween word (word + 1) listed marks (taking (16 + word) found bits)
word-found word bits found listed marks none marked end key from below leads has =
    let is : (end.0 / 64) % 1024 ≡ word = omega (arith, from, below) in
    elim (bit-cases bits (end.0 % 64)) [
      | inl clear ↦ inr (inr (bits, let at : bits_word end ≡ 16 + word = omega (arith, is) in subst (λ w. HasRead w bits (taking (16 + word) found bits)) (sym at) (read-taken (16 + word) found bits none), clear))
      | inr set ↦ inl (marked (end.0 % 64) (omega arith) set end key (omega (arith, is)) leads has)
    ]

-- the words of one list of steps, and those behind them
pub words-joined : (low mid high : ℕ) (listed marks : List ℕ) (steps : List BoardStep) → FindsBetween low mid listed marks steps → FindsBetween mid high listed marks steps → FindsBetween low high listed marks steps
words-joined low mid high listed marks steps front back end key from below leads has =
    elim (cases_lt ((end.0 / 64) % 1024) mid) [
      | inl before ↦ front end key from before leads has
      | inr behind ↦ back end key behind below leads has
    ]

-- all ends, once the names were taken out and the bits of each group of words that they had
pub all-found : (names found : ℕ) (listed marks : List ℕ) (steps : List BoardStep) → (found ≡ 0 → names ≡ 0) → ((group : ℕ) → group < 64 → bit_at names group ≡ 1 → FindsBetween (16 * group) (16 * group + 16) listed marks steps) → FindsAll listed marks (taking names_word found names ++ steps)
all-found names found listed marks steps none each end key leads has =
    elim (bit-cases names (end.0 / 1024 % 64)) [
      | inl clear ↦ inr (inl (names, read-left names_word names (taking names_word found names) steps (read-taken names_word found names none), clear))
      | inr set ↦
          elim (each (end.0 / 1024 % 64) (omega arith) set end key (omega arith) (omega arith) leads has) [
            | inl marked ↦ inl marked
            | inr was ↦ inr (clear-right end (taking names_word found names) steps was)
          ]
    ]

-- steps behind steps
pub stepped-both : (a b c : BoardSeat) (front back : List BoardStep) → HasStepped a b front → HasStepped b c back → HasStepped a c (front ++ back)
stepped-both a b c front back first second =
    (second.0 ∙ first.0, second.1 ∙ ap (λ (at : Done). record at { steps = at.steps ++ back }) first.1 ∙ ap (λ (steps : List BoardStep). record a.at { steps = steps }) (append_assoc a.at.steps front back))

-- what was marked by steps and by those behind them
pub marks-found : (listed more a b c : List ℕ) (front back : List BoardStep) → more ≡ listed → MarksFound listed a b front → MarksFound more b c back → MarksFound listed a c (front ++ back)
marks-found listed more a b c front back same first second key marked =
    elim (second key marked) [
      | inl before ↦
          elim (first key before) [
            | inl old ↦ inl old
            | inr found ↦ inr (found.0, found.1, (found.2.0, read-left (bits_word found.0) found.2.0 front back found.2.1, found.2.2))
          ]
      | inr found ↦ inr (found.0, sym (ap (λ l. slice_index l found.0.0) same) ∙ found.1, (found.2.0, read-right (bits_word found.0) found.2.0 front back found.2.1, found.2.2))
    ]

-- what was marked by the bits of a word that were taken out
pub marks-taken : (word bits found : ℕ) (listed old new : List ℕ) → (found ≡ 0 → bits ≡ 0) → MarksOfWord word bits listed old new → MarksFound listed old new (taking (16 + word) found bits)
marks-taken word bits found listed old new none marks key marked =
    elim (marks key marked) [
      | inl before ↦ inl before
      | inr of ↦ inr (of.0, of.1, (bits, subst (λ w. HasRead w bits (taking (16 + word) found bits)) (sym of.2) (read-taken (16 + word) found bits none), of.3))
    ]

-- what was marked by bits of a word before, and then by one more
pub marks-bit : (word bits bit : ℕ) (listed more a b c : List ℕ) → bit < 64 → bit_at bits bit ≡ 1 → word < 1024 → more ≡ listed → MarksOfWord word bits listed a b → MarksOfBit (word * 64 + bit) more b c → MarksOfWord word bits listed a c
marks-bit word bits bit listed more a b c small set few same first second key marked =
    elim (second key marked) [
      | inl before ↦ first key before
      | inr of ↦
          let at : of.0.0 % 64 ≡ bit = omega (arith, of.2) in
          inr (of.0, sym (ap (λ l. slice_index l of.0.0) same) ∙ of.1, omega (arith, of.2), ap (bit_at bits) at ∙ set)
    ]

-- what was marked by the numbers of a bit before, and then by one more
pub marks-number : (bit row : ℕ) (listed more a b c : List ℕ) → bit < 65536 → more ≡ listed → MarksOfBit bit listed a b → MarksOfNumber (row * 65536 + bit) more b c → MarksOfBit bit listed a c
marks-number bit row listed more a b c small same first second key marked =
    elim (second key marked) [
      | inl before ↦ first key before
      | inr leads ↦ inr (let end : EndId = record { 0 = row * 65536 + bit } in (end, sym (ap (λ l. slice_index l end.0) same) ∙ leads, omega (arith, small)))
    ]

-- what steps took out, and those behind them, the ones or the others did
taken-cases : (word value : ℕ) (front back : List BoardStep) → HasTaken word value (front ++ back) → HasTaken word value front ⊎ HasTaken word value back
taken-cases word value [] back taken = inr taken
taken-cases word value (step ∷ front) back taken =
    elim taken [
      | inl here ↦ inl (inl here)
      | inr there ↦
          elim (taken-cases word value front back there) [
            | inl before ↦ inl (inr before)
            | inr behind ↦ inr behind
          ]
    ]

taken-left : (word value : ℕ) (front back : List BoardStep) → HasTaken word value front → HasTaken word value (front ++ back)
taken-left word value [] back taken = absurd taken
taken-left word value (step ∷ front) back taken =
    elim taken [
      | inl here ↦ inl here
      | inr there ↦ inr (taken-left word value front back there)
    ]

taken-right : (word value : ℕ) (front back : List BoardStep) → HasTaken word value back → HasTaken word value (front ++ back)
taken-right word value [] back taken = taken
taken-right word value (step ∷ front) back taken = inr (taken-right word value front back taken)

-- a word that was emptied by steps was by all of them
pub emptied-left : (word : ℕ) (front back : List BoardStep) → WasEmptied word front → WasEmptied word (front ++ back)
emptied-left word front back emptied =
    elim emptied [
      | inl none ↦ inl (read-left word 0 front back none)
      | inr taken ↦ inr (taken.0, taken-left word taken.0 front back taken.1)
    ]

pub emptied-right : (word : ℕ) (front back : List BoardStep) → WasEmptied word back → WasEmptied word (front ++ back)
emptied-right word front back emptied =
    elim emptied [
      | inl none ↦ inl (read-right word 0 front back none)
      | inr taken ↦ inr (taken.0, taken-right word taken.0 front back taken.1)
    ]

-- the words of one list of steps, and those behind them
pub empties-joined : (low mid high : ℕ) (front back : List BoardStep) → EmptiesBetween low mid front → EmptiesBetween mid high back → EmptiesBetween low high (front ++ back)
empties-joined low mid high front back first second word from below =
    elim (cases_lt word mid) [
      | inl before ↦ emptied-left (16 + word) front back (first word from before)
      | inr behind ↦ emptied-right (16 + word) front back (second word behind below)
    ]

-- the words that names name were emptied after them, by steps and by those behind them
pub named-both : (front back : List BoardStep) → EmptiesNamed front → EmptiesNamed back → EmptiesNamed (front ++ back)
named-both [] back first second = second
named-both (step ∷ front) back first second =
    (λ end names is set. emptied-left (bits_word end) front back (first.0 end names is set), named-both front back first.1 second)

-- what was taken out is marked, by steps and by those behind them
pub taken-both : (listed more marks new : List ℕ) (front back : List BoardStep) → more ≡ listed → KeepsMarks marks new → MarksTaken listed marks front → MarksTaken more new back → MarksTaken more new (front ++ back)
taken-both listed more marks new front back same keeps first second end key bits taken set leads has =
    elim (taken-cases (bits_word end) bits front back taken) [
      | inl before ↦ keeps.1 key (first end key bits before set (sym (ap (λ l. slice_index l end.0) same) ∙ leads) (omega (arith, has, keeps.0)))
      | inr behind ↦ second end key bits behind set leads has
    ]

-- a take takes out of its word what it says
taken-of : (at value word found taken : ℕ) (none : Bool) → HasTaken at value (Looked word found ∷ (if none then [] else Took word taken ∷ [])) → IsTaking at value (Took word taken)
taken-of at value word found taken true has =
    elim has [
      | inl looked ↦ absurd looked
      | inr rest ↦ absurd rest
    ]
taken-of at value word found taken false has =
    elim has [
      | inl looked ↦ absurd looked
      | inr rest ↦
          elim rest [
            | inl is ↦ is
            | inr past ↦ absurd past
          ]
    ]

-- a take leaves nothing in its word
emptied-taken : (word found taken : ℕ) → WasEmptied word (taking word found taken)
emptied-taken word zero taken = inl (inl (refl, refl))
emptied-taken word (suc found) taken =
    let off : (suc found == 0) ≡ false = search rules in
    inr (taken, subst (λ b. HasTaken word taken (Looked word (suc found) ∷ (if b then [] else Took word taken ∷ []))) (sym off) (inr (inl (refl, refl))))

-- a take out of a word of bits takes no names
no-names : (word found taken : ℕ) (none : Bool) → EmptiesNamed (Looked (16 + word) found ∷ (if none then [] else Took (16 + word) taken ∷ []))
no-names word found taken true = (λ end names is set. absurd is, tt)
no-names word found taken false = (λ end names is set. absurd is, (λ end names is set. absurd (omega (arith, is.0)), tt))

-- the bits of a word that were taken out are marked
pub word-marked : (word bits found : ℕ) (listed marks : List ℕ) → word < 1024 → ((bit : ℕ) → bit < 64 → bit_at bits bit ≡ 1 → MarksBit (word * 64 + bit) listed marks) → MarksTaken listed marks (taking (16 + word) found bits)
word-marked word bits found listed marks few marked end key value has set leads bit =
    let is = taken-of (bits_word end) value (16 + word) found bits (found == 0) has in
    marked (end.0 % 64) (omega arith) (ap (λ b. bit_at b (end.0 % 64)) is.1 ∙ set) end key (omega (arith, is.0, few)) leads bit

-- a word whose bits were taken out was emptied, and no names were taken out
pub word-emptied : (word bits found : ℕ) → EmptiesBetween word (word + 1) (taking (16 + word) found bits) × EmptiesNamed (taking (16 + word) found bits)
word-emptied word bits found = (
  λ other from below.
      let is : word ≡ other = omega (arith, from, below) in
      subst (λ w. WasEmptied (16 + w) (taking (16 + word) found bits)) is (emptied-taken (16 + word) found bits),
  no-names word found bits (found == 0),
)

-- names are taken out, and then the bits of the words that they name
pub names-emptied : (names found : ℕ) (none : Bool) (steps : List BoardStep) → ((group : ℕ) → group < 64 → bit_at names group ≡ 1 → EmptiesBetween (16 * group) (16 * group + 16) steps) → EmptiesNamed steps
    → EmptiesNamed ((Looked names_word found ∷ (if none then [] else Took names_word names ∷ [])) ++ steps)
names-emptied names found true steps each rest = (λ end value is set. absurd is, rest)
names-emptied names found false steps each rest = (
  λ end value is set. absurd is,
  (
    λ end value is set.
        each (end.0 / 1024 % 64) (omega arith) (ap (λ n. bit_at n (end.0 / 1024 % 64)) is.1 ∙ set) ((end.0 / 64) % 1024) (omega arith) (omega arith),
    rest,
  ),
)

-- names that are taken out are no bits
pub names-marked : (names found : ℕ) (listed marks : List ℕ) (steps : List BoardStep) → MarksTaken listed marks steps → MarksTaken listed marks (taking names_word found names ++ steps)
names-marked names found listed marks steps marked end key bits taken set leads has =
    elim (taken-cases (bits_word end) bits (taking names_word found names) steps taken) [
      | inl before ↦ absurd (let is = taken-of (bits_word end) bits names_word found names (found == 0) before in omega (arith, is.0))
      | inr behind ↦ marked end key bits behind set leads has
    ]

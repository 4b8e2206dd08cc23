-- Reading a script, text line by text line.
use Rattle.std.proofs.Common.{◌≡◌, ℕ, ◌+◌, List, [], ◌∷◌, ◌++◌, length, true, arith, append_assoc, length-append, Ok, Err, refl, ap, sym, ◌∙◌}
use Rattle.std.proofs.lemmas.List.{nil_from_length}
use Rattle.std.specs.Str.{is_utf8}
use Rattle.hub_text.specs.TextLines.{text_lines_of}
use Rattle.hub_script.specs.declared.error.ScriptError.{ScriptError}
use Rattle.hub_script.specs.Answers.{LeavesKnown, ReadingTakesMemoryAt}
use Rattle.hub_script.specs.Fields.{ScriptRead}
use Rattle.hub_script.specs.Known.{Known, nothing}
use Rattle.hub_script.specs.Script.{after_line, going_on, script_from, script_of}

-- what is read of the rest, after n text lines and with what they say, is what is read of all
abbrev pub IsReadSoFar : List ℕ → ℕ → Known → List ℕ → Type 0
IsReadSoFar text n k rest = script_from (n + 1) k (text_lines_of rest) ≡ script_of text

-- n text lines before the rest obey the rules, and this is known after them
abbrev pub HasObeyed : List ℕ → ℕ → Known → List ℕ → Type 0
HasObeyed text n k rest = (before : List (List ℕ)) × (text_lines_of text ≡ before ++ text_lines_of rest) × (n ≡ length before) × LeavesKnown nothing before k

leads_more : (k m next : Known) (lines : List (List ℕ)) (line : List ℕ) → LeavesKnown k lines m → after_line m line ≡ Ok next → LeavesKnown k (lines ++ line ∷ []) next
leads_more k m next [] line h g = (next, ap (λ (j : Known). after_line j line) h ∙ g, refl)
leads_more k m next (l ∷ lines) line h g = (h.0, h.1, leads_more h.0 m next lines line h.2 g)

pub one_obeys : (text : List ℕ) (n : ℕ) (k next : Known) (rest line after : List ℕ) → text_lines_of rest ≡ line ∷ text_lines_of after → after_line k line ≡ Ok next → HasObeyed text n k rest → HasObeyed text (n + 1) next after
one_obeys text n k next rest line after cut added gone = (
  gone.0 ++ line ∷ [],
  gone.1 ∙ ap (λ lines. gone.0 ++ lines) cut ∙ sym (append_assoc gone.0 (line ∷ []) (text_lines_of after)),
  (let count : n ≡ length gone.0 = gone.2 in simp length-append (omega arith)),
  leads_more nothing k next gone.0 line gone.3 added,
)

pub takes_at : (text : List ℕ) (n : ℕ) (k : Known) (rest line after : List ℕ) → text_lines_of rest ≡ line ∷ text_lines_of after → HasObeyed text n k rest → is_utf8 line ≡ true → ReadingTakesMemoryAt text (n + 1)
takes_at text n k rest line after cut gone valid = record {
  before = gone.0;
  line = line;
  behind = text_lines_of after;
  known = k;
  lines = gone.1 ∙ ap (λ lines. gone.0 ++ lines) cut;
  number = ap (λ m. m + 1) gone.2;
  obeyed = gone.3;
  utf8 = valid;
}

at_line : (n : ℕ) (k : Known) (rest line after : List ℕ) → text_lines_of rest ≡ line ∷ text_lines_of after
    → script_from n k (text_lines_of rest) ≡ going_on n (after_line k line) (λ next. script_from (n + 1) next (text_lines_of after))
unfolding script_from
at_line n k rest line after h = ap (script_from n k) h

pub one_more : (text : List ℕ) (n : ℕ) (k next : Known) (rest line after : List ℕ) → text_lines_of rest ≡ line ∷ text_lines_of after
    → after_line k line ≡ Ok next → IsReadSoFar text n k rest → IsReadSoFar text (n + 1) next after
one_more text n k next rest line after h added so_far =
    sym (ap (λ (r : ScriptRead Known). going_on (n + 1) r (λ more. script_from (n + 1 + 1) more (text_lines_of after))) added)
    ∙ sym (at_line (n + 1) k rest line after h) ∙ so_far

pub refused : (text : List ℕ) (n : ℕ) (k : Known) (rest line after : List ℕ) (e : ScriptError) → text_lines_of rest ≡ line ∷ text_lines_of after
    → after_line k line ≡ Err e → IsReadSoFar text n k rest → script_of text ≡ Err (n + 1, e)
refused text n k rest line after e h bad so_far =
    sym so_far ∙ at_line (n + 1) k rest line after h
    ∙ ap (λ (r : ScriptRead Known). going_on (n + 1) r (λ more. script_from (n + 1 + 1) more (text_lines_of after))) bad

none_left : (n : ℕ) (k : Known) → script_from n k (text_lines_of []) ≡ Ok k.script
unfolding script_from text_lines_of
none_left n k = refl

pub all_read : (text : List ℕ) (n : ℕ) (k : Known) (rest : List ℕ) → length rest ≡ 0 → IsReadSoFar text n k rest → script_of text ≡ Ok k.script
all_read text n k rest h so_far = sym so_far ∙ ap (λ xs. script_from (n + 1) k (text_lines_of xs)) (nil_from_length rest h) ∙ none_left (n + 1) k

-- The answer that a text has, test by test, and what it says.
use Rattle.std.proofs.Common.{◌≡◌, ℕ, ◌<◌, ◌≤◌, List, [], ◌∷◌, length, Bool, true, false, cond, not, nat_lt, Option, Some, None, Result, Ok, Err, IfOk, IfErr, refl, ap, ◌∙◌, sym, subst, arith, true≢false, lt-ltb, le-ltb, ltb-true, ltb-false}
use Rattle.serde_json.specs.Data.{Data, depth}
use Rattle.serde_json.specs.Read.{read}
use Rattle.serde_json.specs.Written.{has_float, compact_text}
use Rattle.serde_json.proofs.OnLiterals.{serde_json_on_literals}
use Rattle.hub_envelope.specs.Profile.{IsInProfile}
use Rattle.hub_envelope.specs.BodyText.{IsBodyText}
use Rattle.hub_envelope.specs.Answer.{answer_to, answer_of, IsAnswerTo}
use Rattle.hub_envelope.specs.declared.body.BodyError.{BodyError}
use Rattle.hub_envelope.specs.declared.body.BodyError.TheVariants.{NotJson, NotWhole, TooDeep, TooLong, OutOfMemory}
use Rattle.hub_envelope.specs.declared.limits.TheConstants.{MAX_NESTING, MAX_BODY_BYTES}
use Rattle.hub_envelope.proofs.ReadValues.{IsWhole-read, IsKeyOrdered-read, has_float-whole}

-- ---- each test on its own

pub answer_of-not_json : (text : List ℕ) → read text ≡ None → answer_of text ≡ Err NotJson
unfolding answer_of
answer_of-not_json text unread = ap answer_to unread

pub answer_of-not_whole : (text : List ℕ) (d : Data) → read text ≡ Some d → has_float d ≡ true → answer_of text ≡ Err NotWhole
unfolding answer_of
answer_of-not_whole text d reads float = ap answer_to reads ∙ rw float

pub answer_of-too_deep : (text : List ℕ) (d : Data) → read text ≡ Some d → has_float d ≡ false → MAX_NESTING < depth d → answer_of text ≡ Err TooDeep
unfolding answer_of
answer_of-too_deep text d reads whole deep = ap answer_to reads ∙ rw (whole, lt-ltb MAX_NESTING (depth d) deep)

pub answer_of-too_long : (text : List ℕ) (d : Data) → read text ≡ Some d → has_float d ≡ false → depth d ≤ MAX_NESTING → MAX_BODY_BYTES < length (compact_text d) → answer_of text ≡ Err TooLong
unfolding answer_of
answer_of-too_long text d reads whole nested long = ap answer_to reads ∙ rw (whole, le-ltb MAX_NESTING (depth d) nested, lt-ltb MAX_BODY_BYTES (length (compact_text d)) long)

pub answer_of-body : (text : List ℕ) (d : Data) → read text ≡ Some d → IsInProfile d → answer_of text ≡ Ok (compact_text d)
unfolding answer_of
answer_of-body text d reads profile = ap answer_to reads ∙ rw (has_float-whole d profile.whole, le-ltb MAX_NESTING (depth d) profile.nested, le-ltb MAX_BODY_BYTES (length (compact_text d)) profile.short)

-- a body reads to itself
pub answer_of-again : (text : List ℕ) → IsBodyText text → answer_of text ≡ Ok text
answer_of-again text body = answer_of-body text body.value body.reads body.profile ∙ ap Ok (sym body.compact)

-- ---- what the answer says

-- a value that was read and passes the tests is in the profile
pub IsInProfile-read : (text : List ℕ) (d : Data) → read text ≡ Some d → has_float d ≡ false → depth d ≤ MAX_NESTING → length (compact_text d) ≤ MAX_BODY_BYTES → IsInProfile d
IsInProfile-read text d reads whole nested short = record { whole = IsWhole-read text d reads whole; nested = nested; short = short; ordered = IsKeyOrdered-read text d reads }

abbrev by_length : Bool → Data → Result (List ℕ) BodyError
by_length long d = cond long (Err TooLong) (Ok (compact_text d))

abbrev by_depth : Bool → Bool → Data → Result (List ℕ) BodyError
by_depth deep long d = cond deep (Err TooDeep) (by_length long d)

abbrev by_float : Bool → Bool → Bool → Data → Result (List ℕ) BodyError
by_float float deep long d = cond float (Err NotWhole) (by_depth deep long d)

-- by the outcome of each test
true_of : (text : List ℕ) (d : Data) (float deep long : Bool) → read text ≡ Some d → has_float d ≡ float → nat_lt MAX_NESTING (depth d) ≡ deep → nat_lt MAX_BODY_BYTES (length (compact_text d)) ≡ long
    → IsAnswerTo text (by_float float deep long d)
true_of text d true deep long reads f e l = (d, reads, λ whole. true≢false (sym f ∙ has_float-whole d whole))
true_of text d false true long reads f e l = (d, reads, IsWhole-read text d reads f, ltb-true MAX_NESTING (depth d) e)
true_of text d false false true reads f e l = (d, reads, IsWhole-read text d reads f, ltb-false MAX_NESTING (depth d) e, ltb-true MAX_BODY_BYTES (length (compact_text d)) l)
true_of text d false false false reads f e l =
    (d, reads, IsInProfile-read text d reads f (ltb-false MAX_NESTING (depth d) e) (ltb-false MAX_BODY_BYTES (length (compact_text d)) l), refl)

true_to : (text : List ℕ) (o : Option Data) → read text ≡ o → IsAnswerTo text (answer_to o)
true_to text None unread = unread
true_to text (Some d) reads = true_of text d _ _ _ reads refl refl refl

-- the answer that a text has is true of it
pub IsAnswerTo-answer_of : (text : List ℕ) → IsAnswerTo text (answer_of text)
unfolding answer_of
IsAnswerTo-answer_of text = true_to text (read text) refl

pub IsAnswerTo-equal : (text : List ℕ) (answer : Result (List ℕ) BodyError) → answer_of text ≡ answer → IsAnswerTo text answer
IsAnswerTo-equal text answer e = subst (IsAnswerTo text) e (IsAnswerTo-answer_of text)

-- ---- the empty text has no value

nothing_in_empty : (d : Data) → read [] ≡ Some d → ⊥
unfolding serde_json_on_literals
nothing_in_empty d reads = cc

pub read-nonempty : (text : List ℕ) (d : Data) → read text ≡ Some d → 0 < length text
read-nonempty [] d reads = absurd (nothing_in_empty d reads)
read-nonempty (x ∷ text) d reads = omega arith

-- ---- what an answer of `is_whole` says, where it is no and where it is yes

pub from_not_false : (b r : Bool) → r ≡ not b → r ≡ false → b ≡ true
from_not_false true r e f = refl
from_not_false false r e f = absurd (true≢false (sym e ∙ f))

pub from_not_true : (b r : Bool) → r ≡ not b → r ≡ true → b ≡ false
from_not_true true r e f = absurd (true≢false (sym f ∙ e))
from_not_true false r e f = refl

-- what was answered is true, where it is the body or want of memory
pub IsAnswerTo-copy : (text : List ℕ) (r : Result (List ℕ) BodyError) → IfOk r (λ body. answer_of text ≡ Ok body) → IfErr r (λ e. e ≡ OutOfMemory) → IsAnswerTo text r
IsAnswerTo-copy text (Ok body) is err = IsAnswerTo-equal text (Ok body) is
IsAnswerTo-copy text (Err e) ok is = subst (λ f. IsAnswerTo text (Err f)) (sym is) tt

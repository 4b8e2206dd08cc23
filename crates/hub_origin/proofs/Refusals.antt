-- What a refusal says of the text.
use Rattle.std.proofs.Common.{◌≡◌, ◌⊎◌, ℕ, List, Option, Some, None, is_some, true, false, Ok, Err, inl, inr, refl, sym, ap, ◌∙◌}
use Rattle.url.specs.declared.error.ParseError.{ParseError}
use Rattle.url.specs.declared.error.ParseError.TheVariants as parse
use Rattle.url.specs.Origin.{Triple, ascii_serialization, origin_of}
use Rattle.url.specs.Parser.{IsOutOfRoom, parse_url}
use Rattle.url.specs.Parts.{Parts}
use Rattle.hub_origin.specs.declared.origin.OriginError.{OriginError}
use Rattle.hub_origin.specs.declared.origin.OriginError.TheVariants.{BadUrl, OpaqueOrigin, OutOfMemory}
use Rattle.hub_origin.specs.Origin.{IsOriginAnswer, origin_answer, tuple_answer, url_answer}
use Rattle.hub_origin.specs.Refusal.{parse_refusal}

abbrev pub Told : List ℕ → OriginError → Type 0
Told text e = ((e ≡ OutOfMemory) ⊎ (origin_answer text ≡ Err e)) × IsOriginAnswer text (Err e)

-- what is no URL by the standard's parser has no origin
pub no_url : (text : List ℕ) (e : ParseError) → parse_url None text ≡ Err e → origin_answer text ≡ Err BadUrl
unfolding origin_answer
no_url text e h = ap url_answer h

pub refused : (text : List ℕ) (e : ParseError) → (parse_url None text ≡ Err e) ⊎ IsOutOfRoom e → Told text (parse_refusal e)
refused text parse.OutOfMemory h = (inl refl, tt)
refused text parse.Overflow h = (inl refl, tt)
refused text e (inl h) = (inr (no_url text e h), (e, h))
refused text e (inr (inl h)) = absurd cc
refused text e (inr (inr h)) = absurd cc

-- the answer by the origin of the URL
pub by_origin : (text : List ℕ) (url : Parts) (origin : Option Triple) → parse_url None text ≡ Ok url → origin ≡ origin_of url → origin_answer text ≡ tuple_answer origin
unfolding origin_answer
by_origin text url origin h is = ap url_answer h ∙ ap tuple_answer (sym is)

pub is_opaque : (origin : Option Triple) → is_some origin ≡ false → tuple_answer origin ≡ Err OpaqueOrigin
is_opaque None h = refl
is_opaque (Some t) h = cc

pub is_told : (origin : Option Triple) → is_some origin ≡ true → tuple_answer origin ≡ Ok (ascii_serialization origin)
is_told None h = cc
is_told (Some t) h = refl

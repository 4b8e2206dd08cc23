-- The origin of a URL (URL Standard, "Origin"), by its ASCII text (WHATWG HTML, "Origin").
use Rattle.std.specs.Prelude.{◌≡◌, ℕ, List, Option, Some, None, Result, Ok, Err}
use Rattle.url.specs.declared.error.ParseError.{ParseError}
use Rattle.url.specs.Origin.{Triple, ascii_serialization, origin_of}
use Rattle.url.specs.Parser.{Parsed, parse_url}
use Rattle.url.specs.Parts.{Parts}
use Rattle.hub_origin.specs.declared.origin.OriginError.{OriginError}
use Rattle.hub_origin.specs.declared.origin.OriginError.TheVariants.{BadUrl, OpaqueOrigin, OutOfMemory}

-- an origin's text; an origin that is no scheme, host and port is opaque
abbrev pub tuple_answer : Option Triple → Result (List ℕ) OriginError
tuple_answer None = Err OpaqueOrigin
tuple_answer (Some t) = Ok (ascii_serialization (Some t))

abbrev pub url_answer : Parsed Parts → Result (List ℕ) OriginError
url_answer (Err e) = Err BadUrl
url_answer (Ok url) = tuple_answer (origin_of url)

-- the origin of the URL that a text is, as its ASCII text, or why there is none; unless memory runs out
unfoldable pub origin_answer : List ℕ → Result (List ℕ) OriginError
origin_answer text = url_answer (parse_url None text)

-- by cases, what an answer says of the text; running out of memory says nothing
abbrev pub IsOriginAnswer : List ℕ → Result (List ℕ) OriginError → Type 0
IsOriginAnswer text (Ok origin) =
    (url : Parts) × (t : Triple) × (parse_url None text ≡ Ok url) × (origin_of url ≡ Some t) × (origin ≡ ascii_serialization (Some t))
IsOriginAnswer text (Err BadUrl) = (e : ParseError) × (parse_url None text ≡ Err e)
IsOriginAnswer text (Err OpaqueOrigin) = (url : Parts) × (parse_url None text ≡ Ok url) × (origin_of url ≡ None)
IsOriginAnswer text (Err OutOfMemory) = Unit {0}

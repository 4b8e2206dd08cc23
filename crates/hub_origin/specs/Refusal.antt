-- What a refusal of the URL parser is told as.
use Rattle.url.specs.declared.error.ParseError.{ParseError}
use Rattle.url.specs.declared.error.ParseError.TheVariants as parse
use Rattle.hub_origin.specs.declared.origin.OriginError.{OriginError}
use Rattle.hub_origin.specs.declared.origin.OriginError.TheVariants.{BadUrl, OutOfMemory}

-- no room means out of memory; everything else means a text that is no URL
abbrev pub parse_refusal : ParseError → OriginError
parse_refusal parse.OutOfMemory = OutOfMemory
parse_refusal parse.Overflow = OutOfMemory
parse_refusal _ = BadUrl

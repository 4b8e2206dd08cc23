-- The versions of logs: the first line that names each, and what each may hold.
use Rattle.std.specs.Prelude.{ℕ, List, Bool, true, false, Option, Some, None, codes, bytes_eq, if◌then◌else◌}
use Rattle.hub_envelope.specs.declared.limits.TheConstants.{MAX_BODY_BYTES}
use Rattle.hub_trace.specs.declared.limits.TheConstants.{MAX_LINE, OLD_MAX_BODY_BYTES, OLD_MAX_LINE}
use Rattle.hub_trace.specs.declared.log.TheConstants.{LOG_HEADER}
use Rattle.hub_trace.specs.declared.log_version.LogVersion.{LogVersion}
use Rattle.hub_trace.specs.declared.log_version.LogVersion.TheVariants.{First, Second, Third}

-- the first line of logs of the version
abbrev pub header_of : LogVersion → List ℕ
header_of First = codes "hublog 1"
header_of Second = codes "hublog 2"
header_of Third = LOG_HEADER.now

-- the version whose logs begin with this line
abbrev pub version_of : List ℕ → Option LogVersion
version_of header =
    if bytes_eq header (header_of First) then Some First
    else (if bytes_eq header (header_of Second) then Some Second
    else (if bytes_eq header (header_of Third) then Some Third
    else None))

-- whether notices may stand in its entries
abbrev pub has_notices : LogVersion → Bool
has_notices First = false
has_notices Second = true
has_notices Third = true

-- the greatest number of a line of an end
abbrev pub max_line : LogVersion → ℕ
max_line First = OLD_MAX_LINE
max_line Second = OLD_MAX_LINE
max_line Third = MAX_LINE

-- how long the compact text of a body may be, in bytes
abbrev pub max_body : LogVersion → ℕ
max_body First = OLD_MAX_BODY_BYTES
max_body Second = OLD_MAX_BODY_BYTES
max_body Third = MAX_BODY_BYTES

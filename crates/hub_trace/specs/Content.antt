-- Messages and notices.
use Rattle.std.specs.Prelude.{Bool, true, false}
use Rattle.hub_trace.specs.declared.content.Content.{Content}
use Rattle.hub_trace.specs.declared.content.Content.TheVariants.{Payload, Notice}

abbrev pub is_notice : Content → Bool
is_notice (Payload m) = false
is_notice Notice = true

-- What a reader of script lines keeps, as what the lines before say.
use Rattle.std.specs.Prelude.{⊤}
use Rattle.std.specs.BTreeMap.{get_by_text}
use Rattle.std.specs.BTreeSet.{contains}
use Rattle.std.specs.Ordering.{nat_cmp, ordering_then}
use Rattle.std.specs.declared.cmp.Ordering.{Ordering}
use Rattle.hub_script.specs.declared.script_reader.NameHolder.{NameHolder}
use Rattle.hub_script.specs.declared.script_reader.ScriptReader.{ScriptReader}
use Rattle.hub_script.specs.declared.error.ScriptError.TheVariants.{OutOfMemory}
use Rattle.hub_script.specs.Fields.{ScriptRead}
use Rattle.hub_script.specs.Known.{Known}
use Rattle.hub_text.specs.Reading.{IsReadAs}

-- by agent, then by name
abbrev pub holding_cmp : NameHolder → NameHolder → Ordering
holding_cmp x y = ordering_then (nat_cmp x.agent y.agent) (nat_cmp x.number y.number)

abbrev pub known : ScriptReader → Known
known r = record { script = r.script; names = λ n. get_by_text r.names n; holds = λ x. contains holding_cmp r.held x; handed = λ a. contains nat_cmp r.handed a }

-- After the call the reader knows what is read. Or the call told what is wrong, or that memory ran out, which says
-- nothing of the script.
abbrev pub ReadsTo : ScriptReader → ScriptRead ⊤ → ScriptRead Known → Type 0
ReadsTo new result read = IsReadAs OutOfMemory (λ _. known new) result read

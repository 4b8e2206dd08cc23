-- How the errors of scripts are printed.
use Rattle.std.specs.Prelude.{ℕ, List, Option, Some, None, codes}
use Rattle.hub_script.specs.declared.error.DataCloneCause.TheVariants.{Source, Twice, Detached}
use Rattle.hub_script.specs.declared.error.ScriptError.{ScriptError}
use Rattle.hub_script.specs.declared.error.ScriptError.TheVariants.{Syntax, UnknownAction, UnknownName, DataClone, TooLarge, OutOfMemory}

abbrev pub script_error_text : ScriptError → List ℕ
script_error_text Syntax = codes "Syntax"
script_error_text UnknownAction = codes "UnknownAction"
script_error_text UnknownName = codes "UnknownName"
script_error_text (DataClone Source) = codes "DataClone(Source)"
script_error_text (DataClone Twice) = codes "DataClone(Twice)"
script_error_text (DataClone Detached) = codes "DataClone(Detached)"
script_error_text TooLarge = codes "TooLarge"
script_error_text OutOfMemory = codes "OutOfMemory"

-- the kinds of bad script lines, as they are printed; out of memory is no kind of bad line
abbrev pub script_kind_text : ScriptError → Option (List ℕ)
script_kind_text OutOfMemory = None
script_kind_text bad = Some (script_error_text bad)

-- What the program's engines have in common.
use Rattle.std.specs.Prelude.{◌≡◌, ◌⊎◌, ℕ, List, ◌++◌, Option, Some, None, Result, Ok, Err, codes}
use Rattle.std.specs.Fmt.{decimal}
use Rattle.std.specs.Io.KnownBytes.{Appends}
use Rattle.hub_engine.specs.declared.counted_reader.CountedReader.{CountedReader}
use Rattle.hub_engine.specs.declared.counted_writer.CountedWriter.{CountedWriter}
use Rattle.hub_engine.specs.declared.status.Device.{Device}
use Rattle.hub_engine.specs.declared.status.ExitStatus.{ExitStatus}
use Rattle.hub_engine.specs.declared.status.ExitStatus.TheVariants.{BadInput, OutOfMemory}
use Rattle.hub_engine.specs.Beginning.{AppendsBeginning}
use Rattle.hub_engine.specs.Counted.{failed_reads, failed_writes, flushes_made, inner_reader, inner_writer}
use Rattle.hub_engine.specs.Failures.{CountsFailure, CountsFlush, one_counted}
use Rattle.hub_engine.specs.IsInput.{IsInput}
use Rattle.hub_engine.specs.OutOfMemory.{out_of_memory}

-- What an engine has written: the text that its status stands for. After a failed write it is the
-- beginning of a text that some status stands for.
abbrev pub Writes : (ExitStatus → List ℕ → Type 0) → Option (List ℕ) → Option (List ℕ) → Result ExitStatus Device → Type 0
Writes says old new (Ok status) = (text : List ℕ) × says status text × Appends old new text
Writes says old new (Err failed) = (status : ExitStatus) × (text : List ℕ) × says status text × AppendsBeginning old new text

-- An output was ended: its text written, a failed write counted, and all flushed where none failed.
pub record EndsOutput {W : Type 0} (contents : W → Option (List ℕ)) (says : ExitStatus → List ℕ → Type 0) (old new : CountedWriter W) (result : Result ExitStatus Device) : Type 0 where
  pub written : Writes says (contents (inner_writer old)) (contents (inner_writer new)) result
  pub failures : CountsFailure result (failed_writes old) (failed_writes new)
  pub flushed : CountsFlush result (flushes_made old) (flushes_made new)

-- What an engine has written for all that its reader had left.
abbrev pub AnswersInput : (List ℕ → ExitStatus → List ℕ → Type 0) → Option (List ℕ) → Option (List ℕ) → Option (List ℕ) → Result ExitStatus Device → Type 0
AnswersInput output left old new result = (input : List ℕ) × IsInput left input × Writes (output input) old new result

-- A device failure is answered exactly where one was counted. Else no read and no write failed. Where
-- a read failed the writer is as it was; where a write failed no read and one write did.
abbrev pub CountsDevice : {R W : Type 0} → CountedReader R → CountedReader R → CountedWriter W → CountedWriter W → Result ExitStatus Device → Type 0
CountsDevice r r' w w' (Ok status) = (failed_reads r' ≡ failed_reads r) × (failed_writes w' ≡ failed_writes w)
CountsDevice r r' w w' (Err failed) =
    ((failed_reads r' ≡ one_counted (failed_reads r)) × (w' ≡ w))
    ⊎ ((failed_reads r' ≡ failed_reads r) × (failed_writes w' ≡ one_counted (failed_writes w)))

-- A whole input was answered: its text written, a failure counted, and all flushed where there was none.
pub record EndsAnswer {R W : Type 0} (left : R → Option (List ℕ)) (contents : W → Option (List ℕ)) (output : List ℕ → ExitStatus → List ℕ → Type 0) (r r' : CountedReader R) (w w' : CountedWriter W) (result : Result ExitStatus Device) : Type 0 where
  pub written : AnswersInput output (left (inner_reader r)) (contents (inner_writer w)) (contents (inner_writer w')) result
  pub failures : CountsDevice r r' w w' result
  pub flushed : CountsFlush result (flushes_made w) (flushes_made w')

-- this text, with this status
abbrev pub Says : ExitStatus → List ℕ → ExitStatus → List ℕ → Type 0
Says status text s t = (s ≡ status) × (t ≡ text)

-- the one line of bad input: the number of the first bad line, from 1, and its kind
unfoldable pub bad_line_text : ℕ → List ℕ → List ℕ
bad_line_text n kind = codes "line " ++ decimal n ++ codes ": " ++ kind ++ codes "\n"

-- the text is that line, of a kind that has this name
abbrev pub IsBadLine : ℕ → Option (List ℕ) → List ℕ → Type 0
IsBadLine n None text = ⊥
IsBadLine n (Some kind) text = text ≡ bad_line_text n kind

-- The one line of bad input, or `out of memory`, also where that line found no memory. There is no name
-- of a kind where memory ran out before.
abbrev pub SaysUnread : ℕ → Option (List ℕ) → ExitStatus → List ℕ → Type 0
SaysUnread n kind BadInput text = IsBadLine n kind text
SaysUnread n kind OutOfMemory text = text ≡ out_of_memory
SaysUnread n kind _ text = ⊥

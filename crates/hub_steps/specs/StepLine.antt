-- What a step line asks for, or what is wrong with it: the first test that it fails, in their order.
use Rattle.std.specs.Prelude.{ℕ, ◌==◌, nat_lt, List, [], ◌∷◌, Bool, true, false, Option, Some, None, option_and_then, option_map, Result, Ok, Err, codes, bytes_eq, if◌then◌else◌}
use Rattle.std.specs.Str.{is_utf8}
use Rattle.hub_core.specs.declared.step.Action.TheVariants as action
use Rattle.hub_envelope.specs.Answer.{answer_of}
use Rattle.hub_envelope.specs.declared.body.BodyError.{BodyError}
use Rattle.hub_envelope.specs.declared.ids.AgentId.{AgentId}
use Rattle.hub_envelope.specs.declared.ids.EndId.{EndId}
use Rattle.hub_envelope.specs.declared.ids.LineId.{LineId}
use Rattle.hub_life.specs.declared.life.Event.{Event}
use Rattle.hub_life.specs.Word.{event_of}
use Rattle.hub_text.specs.EndList.{ends_listed}
use Rattle.hub_text.specs.Number as text
use Rattle.hub_text.specs.Reading.{◌>>=◌, some_or}
use Rattle.hub_text.specs.Word.{cut}
use Rattle.hub_steps.specs.declared.read_step_line.RarerStep.{RarerStep}
use Rattle.hub_steps.specs.declared.read_step_line.RarerStep.TheVariants as step
use Rattle.hub_steps.specs.declared.step_line.PosterName.{PosterName}
use Rattle.hub_steps.specs.declared.step_line.PosterName.TheVariants.{Port, Line}
use Rattle.hub_steps.specs.declared.step_line.StepLineError.{StepLineError}
use Rattle.hub_steps.specs.declared.step_line.PosterCommand.TheVariants.{Enter, Push, Leave, Hop, Back, Post}
use Rattle.hub_steps.specs.declared.step_line.Command.{Command}
use Rattle.hub_steps.specs.declared.step_line.Command.TheVariants as command
use Rattle.hub_steps.specs.declared.step_line.StepLine.{StepLine}
use Rattle.hub_steps.specs.declared.step_line.StepLineError.TheVariants.{BadUtf8, UnknownStep, BadWords, BadNumber, BadPoster, BadList, BadName, BadEvent}
use Rattle.hub_steps.specs.BodyKind.{body_kind}
use Rattle.hub_steps.specs.declared.step_line.AgentUrl.{AgentUrl}
use Rattle.hub_steps.specs.declared.step_line.AgentUrl.TheVariants.{NoUrl, Origin, BadUrl, OpaqueOrigin}
use Rattle.hub_origin.specs.Origin.{origin_answer}
use Rattle.hub_origin.specs.declared.origin.OriginError.{OriginError}
use Rattle.hub_origin.specs.declared.origin.OriginError.TheVariants as why
use Rattle.serde_json.specs.Find.{as_str}
use Rattle.serde_json.specs.Read.{read}

-- what is read, or what is wrong in a step line
abbrev pub Read : Type 0 → Type 0
Read X = Result X StepLineError

-- decimal digits without leading zeros, at most 4294967295
abbrev pub number_read : List ℕ → Option ℕ
number_read word = text.number_of 4294967295 word

-- No agent has the number 255, so each number that names no agent is read as that one.
abbrev pub agent_read : ℕ → AgentId
agent_read n = record { 0 = (if nat_lt n 256 then n else 255) }

-- No end has a line 255, so each number that names no line is read as that one.
abbrev pub line_read : ℕ → LineId
line_read n = record { 0 = (if nat_lt n 256 then n else 255) }

-- the poster that the port of that number holds
abbrev pub port_named : List ℕ → Option PosterName
port_named word = option_map (λ port. Port (record { 0 = port })) (number_read word)

-- the poster of the line of that number, at the end of that number
abbrev pub line_named : List ℕ → List ℕ → Option PosterName
line_named end line = option_and_then (λ e. option_map (λ l. Line (record { 0 = e }) (line_read l)) (number_read line)) (number_read end)

abbrev pub poster_cut : Option (List ℕ × List ℕ) → List ℕ → Option PosterName
poster_cut None word = port_named word
poster_cut (Some parts) word = line_named parts.0 parts.1

-- a number, for the poster that a port holds; or two numbers with a `/` between, for the poster of a line
abbrev pub poster_named : List ℕ → Option PosterName
poster_named word = poster_cut (cut 47 word) word

abbrev pub body_read : Result (List ℕ) BodyError → Read (List ℕ)
body_read (Ok body) = Ok body
body_read (Err e) = Err (body_kind e)

abbrev pub url_told : Result (List ℕ) OriginError → AgentUrl
url_told (Ok origin) = Origin origin
url_told (Err why.BadUrl) = BadUrl
url_told (Err why.OpaqueOrigin) = OpaqueOrigin
url_told (Err why.OutOfMemory) = BadUrl

-- `-`, or the origin of a URL
unfoldable pub url_read : List ℕ → AgentUrl
url_read word = if bytes_eq word (codes "-") then NoUrl else url_told (origin_answer word)

-- the JSON string that a text is
unfoldable pub name_read : List ℕ → Read (List ℕ)
name_read text = some_or BadName (read text) >>= λ value. some_or BadName (as_str value)

-- the kinds of words, as docs/FORMATS.md spells them
pub data WordKind : Type 0 where
  -- the number of an agent
  A : WordKind
  -- the number of an end
  E : WordKind
  -- a poster
  P : WordKind
  -- ports: `-`, or numbers joined by single commas
  LIST : WordKind
  -- an event of a life
  WORD : WordKind
  -- a URL, or `-`
  U : WordKind
  -- a JSON string
  NAME : WordKind
  -- a JSON text
  BODY : WordKind

-- what a word of that kind stands for; a name and a body are seen as their bytes
abbrev pub Meaning : WordKind → Type 0
Meaning A = AgentId
Meaning E = EndId
Meaning P = PosterName
Meaning LIST = List EndId
Meaning WORD = Event
Meaning U = AgentUrl
Meaning NAME = List ℕ
Meaning BODY = List ℕ

-- what a word stands for, or what is wrong with it
abbrev pub word_read : (kind : WordKind) → List ℕ → Read (Meaning kind)
word_read A word = some_or BadNumber (option_map agent_read (number_read word))
word_read E word = some_or BadNumber (option_map (λ n. record { 0 = n }) (number_read word))
word_read P word = some_or BadPoster (poster_named word)
word_read LIST word = some_or BadList (ends_listed 4294967295 word)
word_read WORD word = some_or BadEvent (event_of word)
word_read U word = Ok (url_read word)
word_read NAME text = name_read text
word_read BODY text = body_read (answer_of text)

-- A name and a body are all that is left of the step line; every other kind is one word.
abbrev pub is_rest : WordKind → Bool
is_rest NAME = true
is_rest BODY = true
is_rest kind = false

-- the words themselves, one of each kind
abbrev pub Texts : List WordKind → Type 0
Texts [] = Unit {0}
Texts (kind ∷ []) = List ℕ
Texts (kind ∷ kinds) = List ℕ × Texts kinds

-- and what they stand for
abbrev pub Values : List WordKind → Type 0
Values [] = Unit {0}
Values (kind ∷ []) = Meaning kind
Values (kind ∷ kinds) = Meaning kind × Values kinds

-- a word, and what comes after its space
abbrev pub word_before : List ℕ → Read (List ℕ × List ℕ)
word_before text = some_or BadWords (cut 32 text)

abbrev pub word_alone : Option (List ℕ × List ℕ) → List ℕ → Read (List ℕ)
word_alone None text = Ok text
word_alone (Some parts) text = Err BadWords

-- the last word of a step line, or the rest of it
abbrev pub only_word : Bool → List ℕ → Read (List ℕ)
only_word true text = Ok text
only_word false text = word_alone (cut 32 text) text

-- a text that is cut into as many words
abbrev pub cut_into : (kinds : List WordKind) → List ℕ → Read (Texts kinds)
cut_into [] text = Err BadWords
cut_into (kind ∷ []) text = only_word (is_rest kind) text
cut_into (kind ∷ second ∷ kinds) text = do
  parts ← word_before text
  words ← cut_into (second ∷ kinds) parts.1
  Ok (parts.0, words)

-- what each word stands for, or what is wrong with the first one that is bad
abbrev pub read_each : (kinds : List WordKind) → Texts kinds → Read (Values kinds)
read_each [] words = Ok tt
read_each (kind ∷ []) word = word_read kind word
read_each (kind ∷ second ∷ kinds) words = do
  value ← word_read kind words.0
  values ← read_each (second ∷ kinds) words.1
  Ok (value, values)

-- what comes after a step's name and a space, cut into words of these kinds
abbrev pub cut_after : (kinds : List WordKind) → Option (List ℕ) → Read (Texts kinds)
cut_after kinds rest = some_or BadWords rest >>= cut_into kinds

-- what these words stand for. They are cut before any of them is read.
abbrev pub words_after : (kinds : List WordKind) → Option (List ℕ) → Read (Values kinds)
words_after kinds rest = cut_after kinds rest >>= read_each kinds

-- a kind of step line: its name, the kinds of the words after it, and what it asks for
pub record Row : Type 0 where
  pub name : List ℕ
  pub words : List WordKind
  pub asks : Values words → Command

abbrev pub row : List ℕ → (words : List WordKind) → (Values words → Command) → Row
row name words asks = record { name = name; words = words; asks = asks }

-- the table of the step lines
abbrev pub table : List Row
table =
    row (codes "agent") (U ∷ []) command.Agent
    ∷ row (codes "channel") (A ∷ []) (λ a. command.Step (action.Channel a))
    ∷ row (codes "client") (A ∷ []) (λ a. command.Step (action.Client a))
    ∷ row (codes "worker") (A ∷ []) command.Worker
    ∷ row (codes "member") (A ∷ NAME ∷ []) (λ x. command.Member x.0 x.1)
    ∷ row (codes "line") (E ∷ A ∷ []) (λ x. command.Step (action.Line x.0 x.1))
    ∷ row (codes "back") (P ∷ []) (λ p. command.At p Back)
    ∷ row (codes "enter") (P ∷ []) (λ p. command.At p Enter)
    ∷ row (codes "push") (P ∷ LIST ∷ BODY ∷ []) (λ x. command.At x.0 (Push x.1.0 x.1.1))
    ∷ row (codes "leave") (P ∷ []) (λ p. command.At p Leave)
    ∷ row (codes "hop") (P ∷ []) (λ p. command.At p Hop)
    ∷ row (codes "post") (P ∷ LIST ∷ BODY ∷ []) (λ x. command.At x.0 (Post x.1.0 x.1.1))
    ∷ row (codes "start") (E ∷ []) (λ e. command.Step (action.Start e))
    ∷ row (codes "loaded") (E ∷ []) command.Loaded
    ∷ row (codes "take") (E ∷ []) (λ e. command.Step (action.Take e))
    ∷ row (codes "look") (E ∷ []) (λ e. command.Step (action.Look e))
    ∷ row (codes "hand") (E ∷ A ∷ []) (λ x. command.Step (action.Hand x.0 x.1))
    ∷ row (codes "adopt") (E ∷ A ∷ []) (λ x. command.Adopt x.0 x.1)
    ∷ row (codes "close") (E ∷ []) command.Close
    ∷ row (codes "sweep") (E ∷ []) command.Sweep
    ∷ row (codes "cast") (E ∷ LIST ∷ BODY ∷ []) (λ x. command.Cast x.0 x.1.0 x.1.1)
    ∷ row (codes "part") (E ∷ []) (λ e. command.Step (action.Part e))
    ∷ row (codes "order") (A ∷ []) (λ a. command.Step (action.Order a))
    ∷ row (codes "see") (A ∷ []) command.See
    ∷ row (codes "event") (A ∷ WORD ∷ []) (λ x. command.Event x.0 x.1)
    ∷ []

-- The name that a text line of the step begins with, where the step is neither a post nor a take.
abbrev pub spelled : RarerStep → List ℕ
spelled step.Agent = codes "agent"
spelled step.Channel = codes "channel"
spelled step.Client = codes "client"
spelled step.Worker = codes "worker"
spelled step.Member = codes "member"
spelled step.Line = codes "line"
spelled step.Back = codes "back"
spelled step.Enter = codes "enter"
spelled step.Push = codes "push"
spelled step.Leave = codes "leave"
spelled step.Hop = codes "hop"
spelled step.Start = codes "start"
spelled step.Loaded = codes "loaded"
spelled step.Look = codes "look"
spelled step.Hand = codes "hand"
spelled step.Adopt = codes "adopt"
spelled step.Close = codes "close"
spelled step.Sweep = codes "sweep"
spelled step.Cast = codes "cast"
spelled step.Part = codes "part"
spelled step.Order = codes "order"
spelled step.See = codes "see"
spelled step.Event = codes "event"

-- the row of that name
abbrev pub row_named : List ℕ → List Row → Option Row
row_named name [] = None
row_named name (r ∷ rows) = if bytes_eq name r.name then Some r else row_named name rows

abbrev pub command_by : Option Row → Option (List ℕ) → Read Command
command_by None rest = Err UnknownStep
command_by (Some r) rest = words_after r.words rest >>= λ x. Ok (r.asks x)

-- what the step of that name asks for; the rest is what comes after the name and a space
unfoldable pub command_of : List ℕ → Option (List ℕ) → Read Command
command_of name rest = command_by (row_named name table) rest

abbrev pub command_cut : List ℕ → Option (List ℕ × List ℕ) → Read Command
command_cut text None = command_of text None
command_cut text (Some parts) = command_of parts.0 (Some parts.1)

-- what a text line with no mark asks for
unfoldable pub command_in : List ℕ → Read Command
command_in text = command_cut text (cut 32 text)

-- a first `!` refuses memory in the steps
abbrev pub mark : List ℕ → Bool × List ℕ
mark [] = (false, [])
mark (b ∷ bytes) = if b == 33 then (true, bytes) else (false, b ∷ bytes)

abbrev pub step_line_with : Bool → Read Command → Read StepLine
step_line_with refused read = read >>= λ c. Ok (record { command = c; memory_refused = refused })

-- the step line that the bytes of a text line are
unfoldable pub step_line_of : List ℕ → Read StepLine
step_line_of bytes = if is_utf8 bytes then step_line_with (mark bytes).0 (command_in (mark bytes).1) else Err BadUtf8

-- A script of several servers: its lines, and what each says.
use Rattle.std.specs.Prelude.{ℕ, Bool, false, ◌==◌, nat_lt, ◌^◌, List, [], ◌∷◌, codes, length}
use Rattle.std.specs.Prelude.{bytes_eq, slice_index, Option, Some, None, option_map}
use Rattle.std.specs.Prelude.{if◌then◌else◌}
use Rattle.std.specs.List.{after_first, before_first, list_any}
use Rattle.std.specs.Option.{option_and_then}
use Rattle.std.specs.Str.{is_utf8}
use Rattle.std.specs.Str.Parse.{digits_value}
use Rattle.fedi_text.specs.Decimals.{is_decimal}
use Rattle.fedi_script.specs.declared.words.Line.{Line}
use Rattle.fedi_script.specs.declared.words.Line.TheVariants as coded

-- ---- lines

-- the lines that begin with this byte and go on as these do
abbrev pub begun : ℕ → List (List ℕ) → List (List ℕ)
begun byte [] = (byte ∷ []) ∷ []
begun byte (line ∷ lines) = (byte ∷ line) ∷ lines

-- The lines of a text. Each ends with a line feed, or with the text: a line feed at the end begins
-- no further line.
abbrev pub lines_of : List ℕ → List (List ℕ)
lines_of [] = []
lines_of (byte ∷ rest) = if byte == 10 then [] ∷ lines_of rest else begun byte (lines_of rest)

-- ---- what a line says

-- What a line says. First the servers are set up:
-- - `Server host`: there is a server of this host;
-- - `Actor host name`: the server of this host has a member of this name;
-- - `Peers one other`: the servers of these hosts share a key.
-- Then events happen to them:
-- - `Say host name body`: this member posts this to its outbox (ActivityPub, section 6);
-- - `Claim host`: the server of this host claims its next delivery, and looks its recipient up;
-- - `Arrive k`, `Reach j`, `Lose number`: the request, the reply and the attempt with this number
--   arrives, reaches its attempt, and ends without a reply;
-- - `Crash host`: the server of this host stops and starts again;
-- - `Wait seconds`: time passes.
pub data Instruction : Type 0 where
  Server : List ℕ → Instruction
  Actor : List ℕ → List ℕ → Instruction
  Peers : List ℕ → List ℕ → Instruction
  Say : List ℕ → List ℕ → List ℕ → Instruction
  Claim : List ℕ → Instruction
  Arrive : ℕ → Instruction
  Reach : ℕ → Instruction
  Lose : ℕ → Instruction
  Crash : List ℕ → Instruction
  Wait : ℕ → Instruction

-- the byte is a space
abbrev pub is_space : ℕ → Bool
is_space byte = byte == 32

-- what comes before the first space, and what comes after it, if there is one
abbrev pub cut : List ℕ → Option (List ℕ × List ℕ)
cut text =
    if list_any is_space text then Some (before_first is_space text, after_first is_space text)
    else None

-- the text, if it is one word: words are separated by single spaces, so one may be empty
abbrev pub one_word : List ℕ → Option (List ℕ)
one_word text = if list_any is_space text then None else Some text

-- a word, and the text after its space, if that is one word
abbrev pub last_word : List ℕ × List ℕ → Option (List ℕ × List ℕ)
last_word parts = option_map (λ word. (parts.0, word)) (one_word parts.1)

-- a word, and the two parts of the text after its space: a word, and all that follows it
abbrev pub last_parts : List ℕ × List ℕ → Option (List ℕ × List ℕ × List ℕ)
last_parts parts = option_map (λ more. (parts.0, more.0, more.1)) (cut parts.1)

-- there is a zero (48) before another character
abbrev pub is_padded : List ℕ → Bool
is_padded word = if nat_lt 1 (length word) then slice_index word 0 == 48 else false

-- the number that 1 to 19 digits write, without a leading zero
abbrev pub number_in : List ℕ → Option ℕ
number_in word =
    if is_padded word then None
    else (if is_decimal word then Some (digits_value 10 word) else None)

-- the same, if it has 32 bits
abbrev pub seconds_in : List ℕ → Option ℕ
seconds_in word =
    option_and_then (λ number. if nat_lt number (2 ^ 32) then Some number else None)
    (number_in word)

-- what a line says whose first word is this one, and which goes on with this text
unfoldable pub instruction_by : List ℕ → List ℕ → Option Instruction
instruction_by word text =
    if bytes_eq word (codes "server") then option_map Server (one_word text) else (
    if bytes_eq word (codes "actor")
    then option_map (λ words. Actor words.0 words.1) (option_and_then last_word (cut text)) else (
    if bytes_eq word (codes "peers")
    then option_map (λ words. Peers words.0 words.1) (option_and_then last_word (cut text)) else (
    if bytes_eq word (codes "say")
    then option_map (λ words. Say words.0 words.1 words.2) (option_and_then last_parts (cut text))
    else (
    if bytes_eq word (codes "claim") then option_map Claim (one_word text) else (
    if bytes_eq word (codes "arrive") then option_map Arrive (number_in text) else (
    if bytes_eq word (codes "reach") then option_map Reach (number_in text) else (
    if bytes_eq word (codes "lose") then option_map Lose (number_in text) else (
    if bytes_eq word (codes "crash") then option_map Crash (one_word text) else (
    if bytes_eq word (codes "wait") then option_map Wait (seconds_in text) else None)))))))))

-- What a line says, if it is UTF-8 (RFC 3629) and has one of the forms.
abbrev pub instruction_in : List ℕ → Option Instruction
instruction_in line =
    if is_utf8 line
    then option_and_then (λ parts. instruction_by parts.0 parts.1) (cut line)
    else None

-- ---- as the code has it

-- what a line of the code says, without its references
abbrev pub instruction_of : Line → Instruction
instruction_of (coded.Server host) = Server host.now
instruction_of (coded.Actor host name) = Actor host.now name.now
instruction_of (coded.Peers one other) = Peers one.now other.now
instruction_of (coded.Say host name body) = Say host.now name.now body.now
instruction_of (coded.Claim host) = Claim host.now
instruction_of (coded.Arrive request) = Arrive request
instruction_of (coded.Reach reply) = Reach reply
instruction_of (coded.Lose attempt) = Lose attempt
instruction_of (coded.Crash host) = Crash host.now
instruction_of (coded.Wait seconds) = Wait seconds

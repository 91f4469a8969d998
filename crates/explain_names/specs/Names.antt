-- Commands, flags, sense bits, actions and questions in words. Each list of names has a slash between each and the next.
use Rattle.std.specs.Prelude.{ℕ, ◌+◌, List, [], ◌++◌, eqb}
use Rattle.base.specs.Choice.{pick}
use Rattle.base.specs.Bits.{bit_on}
use Rattle.text.specs.Text.{ascii}
use Rattle.status.specs.Status.{refused_text}
use Rattle.words.specs.Words.{item}
use Rattle.words.specs.Each.{each}
use Rattle.questions.specs.declared.Question.{Question}
use Rattle.questions.specs.Number.{number_of}
use Rattle.channel.specs.declared.Ccw.{Ccw}
use Rattle.channel.specs.Ccw.{is_tic}
use Rattle.drive.specs.declared.Read.{Read}
use Rattle.drive.specs.declared.Command.{Command}
use Rattle.drive.specs.declared.Command.TheVariants.{NoOperation, Seek, SetMask, SetSector, SearchId, ReadHome, ReadRecord, SearchIdMultitrack, ReadMultitrack, Unlisted}
use Rattle.drive.specs.Command.{command_of}

-- ---- the command of a CCW

-- the names of commands, in the order of `ccw_index`
unfoldable pub command_names : List ℕ
command_names =
    ascii "transfer in channel/no operation/seek/set file mask/set sector/search ID equal/read home address/unlisted command/"
    ++ ascii "read data/read key and data/read count/read count, key and data/search ID equal, multitrack/"
    ++ ascii "read data, multitrack/read key and data, multitrack/read count, multitrack/read count, key and data, multitrack"

-- a read of a record, by what it moves
unfoldable pub read_index : Read → ℕ
read_index k = pick k.counts (pick k.datas 11 10) (pick k.keys 9 8)

-- the number of a command's name, counted from 0
unfoldable pub command_index : Command → ℕ
command_index NoOperation = 1
command_index Seek = 2
command_index SetMask = 3
command_index SetSector = 4
command_index SearchId = 5
command_index ReadHome = 6
command_index Unlisted = 7
command_index (ReadRecord k) = read_index k
command_index SearchIdMultitrack = 12
command_index (ReadMultitrack k) = read_index k + 5

-- the same for a CCW: 0 for a TIC
unfoldable pub ccw_index : Ccw → ℕ
ccw_index c = pick (is_tic c) 0 (command_index (command_of c.command))

-- a CCW's command in words
unfoldable pub command_name : Ccw → List ℕ
command_name c = item (ccw_index c) command_names

-- ---- its flags

-- "CD 80, CC 40, SLI 20, skip 10, PCI 08 without effect, others 0"
unfoldable pub flag_names : List ℕ
flag_names = ascii "CD/CC/SLI/skip/PCI/bit 5/bit 6/bit 7"

-- a flag, if it is on
unfoldable pub flag_text : ℕ → ℕ → List ℕ
flag_text flags k = pick (bit_on k flags) (ascii ", " ++ item k flag_names) []

-- the flags that are on, from bit 0 to bit 7
unfoldable pub flags_text : ℕ → List ℕ
flags_text flags = each 8 0 (flag_text flags)

-- ---- sense bits

-- the bits of sense bytes 0, 1 and 2, a line for each byte (source document 002, "Sense bytes 0-7 summary"); "on" for one that it does not use
unfoldable pub sense_names : List ℕ
sense_names =
    ascii "command reject/intervention required/channel bus out parity/equipment check/data check/overrun/on/on/"
    ++ ascii "permanent error/invalid track format/end of cylinder/on/no record found/file protected/write inhibited/operation incomplete/"
    ++ ascii "on/correctable/on/environmental data present/on/on/on/on"

-- the name of bit i, counted from bit 0 of sense byte 0 on
unfoldable pub sense_name : ℕ → List ℕ
sense_name i = item i sense_names

-- ---- actions of the error table, whose code for 6A is 0x16

-- the names of the codes 1 to 11, with nothing for code 0
unfoldable pub action_names : List ℕ
action_names = ascii "/1/2/3/4/5/6/7/8/9/10/11"

-- an action by its code, as document 01 writes it
unfoldable pub action_name : ℕ → List ℕ
action_name k = pick (eqb k 0x16) (ascii "6A") (item k action_names)

-- ---- questions, by their numbers from 1

-- "The questions, in number order", with nothing for number 0
unfoldable pub question_texts : List ℕ
question_texts =
    ascii "/are all areas and limits as they must be?"
    ++ ascii "/is the image well formed?"
    ++ ascii "/is each fault well formed and its record in the image?"
    ++ ascii "/is the report well formed?"
    ++ ascii "/is the extent on the pack, first not after last?"
    ++ ascii "/does a row of the error table match?"
    ++ ascii "/is the action other than 6, 6A, 7?"
    ++ ascii "/for action 5: is sense byte 7 = 53?"
    ++ ascii "/do report and chain agree?"

-- the number of a refusal, and its question
unfoldable pub refusal_line : Question → List ℕ
refusal_line q = refused_text q ++ ascii ": " ++ item (number_of q) question_texts ++ ascii "\n"

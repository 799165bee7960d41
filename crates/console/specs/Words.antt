-- What a word behind a command's name is.
-- Assumes nothing.
use Rattle.std.specs.Prelude.{Bool, true, false}
use Rattle.console.specs.declared.words.Word.{Word}

-- whether the words behind it are files
abbrev pub ends : Word → Bool
ends Word.Bytes = false
ends Word.Sheet = false
ends Word.Help = false
ends Word.End = true
ends (Word.File at) = false
ends Word.Unknown = false

-- whether it is a file
abbrev pub is_file : Word → Bool
is_file Word.Bytes = false
is_file Word.Sheet = false
is_file Word.Help = false
is_file Word.End = false
is_file (Word.File at) = true
is_file Word.Unknown = false

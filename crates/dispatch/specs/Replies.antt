-- How a reply is written.
use Rattle.std.specs.Prelude.{ℕ}
use Rattle.phase.specs.Letters.{code_of}
use Rattle.dispatch.specs.declared.reply.Reply.{Reply}
use Rattle.dispatch.specs.declared.reply.Reply.TheVariants.{Stepped, Looked, Filled, Begun, Dropped, Settled}

-- the code of the character: the lock's letter, or r f b d s
abbrev pub code_of_reply : Reply → ℕ
code_of_reply (Stepped letter) = code_of letter
code_of_reply (Looked reading) = 114
code_of_reply (Filled reading) = 102
code_of_reply Begun = 98
code_of_reply (Dropped left) = 100
code_of_reply (Settled dropped left) = 115

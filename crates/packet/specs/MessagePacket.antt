-- What bytes are as a packet with a whole message, as its reader says it: the answers as plain data, and the answer that a result says. Assumes nothing.
use Rattle.std.specs.Prelude.{ℕ, Option, Some, None, Result, Ok, Err}
use Rattle.cause.specs.Cause.{number}
use Rattle.cause.specs.declared.Cause.{Cause}

-- turned away for the cause of this number; silence; or a message of so many bytes
pub data MessagePacket : Type 0 where
  Refused : ℕ → MessagePacket
  Silence : MessagePacket
  Message : ℕ → MessagePacket

-- the answer that a result says
abbrev pub message_said : Result (Option ℕ) Cause → MessagePacket
message_said (Err c) = Refused (number c)
message_said (Ok None) = Silence
message_said (Ok (Some l)) = Message l

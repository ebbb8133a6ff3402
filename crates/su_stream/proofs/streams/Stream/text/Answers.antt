-- What is held are the bytes of the input from the base on.
use Rattle.su_stream.proofs.Fields.{text_is}
use Rattle.su_stream.proofs.streams.Stream.text.Goals as goal

pub returns : goal.returns
returns c = λ come pieces h. rw c.deref.ensures.value (text_is c.args.self.now c.args.span come pieces c.requires h)

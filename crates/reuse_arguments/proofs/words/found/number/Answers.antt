use Rattle.std.specs.Str.Parse.{ParsesUnsigned, ExplainsUnsignedError, HasUnsignedDigitsIfOk}
use Rattle.reuse_arguments.proofs.FoundLemmas.{one_number}
use Rattle.clap.specs.Matches.{found_of}
use Rattle.reuse_arguments.proofs.words.found.number.Goals as goal

pub returns : goal.returns
returns c = one_number _
    (λ bs r. ParsesUnsigned 32 10 bs r × ExplainsUnsignedError 10 bs r × HasUnsignedDigitsIfOk bs r)
    (λ text r given. given.0)
    (found_of c.args.matches.now) c.args.name.now c.get_one.result c.get_one.ensures.none c.get_one.ensures.value

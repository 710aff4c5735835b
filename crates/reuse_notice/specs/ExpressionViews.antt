-- The states of the check of an expression as the code holds them, for private clauses.
use Rattle.reuse_notice.specs.declared.expressions.Phase as code
use Rattle.reuse_notice.specs.declared.expressions.Phase.TheVariants as phase
use Rattle.reuse_notice.specs.declared.expressions.State as held
use Rattle.reuse_notice.specs.ExpressionSteps.{Phase, State, Operand, Licence, Exception, Closed, state}

abbrev pub phase_view : code.Phase → Phase
phase_view phase.Operand = Operand
phase_view phase.Licence = Licence
phase_view phase.Exception = Exception
phase_view phase.Closed = Closed

abbrev pub state_view : held.State → State
state_view s = state s.depth (phase_view s.phase)

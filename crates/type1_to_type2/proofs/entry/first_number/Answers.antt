use Rattle.type1_to_type2.proofs.CheckingLaws.{matrix_fine, matrix_not}
use Rattle.type1_to_type2.proofs.entry.first_number.Goals as goal

pub returns-then-finite_matrix : goal.returns-then-finite_matrix
returns-then-finite_matrix c =
    matrix_fine _ _ _ c.finite_matrix.ensures c.if-finite_matrix.true

pub returns-else-finite_matrix : goal.returns-else-finite_matrix
returns-else-finite_matrix c =
    matrix_not _ _ _ c.finite_matrix.ensures c.if-finite_matrix.false

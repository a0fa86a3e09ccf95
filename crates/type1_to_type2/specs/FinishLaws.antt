-- Laws: converting leaves its output and its length as finishing does, so that `finished_program` returns a converted program too.
use Rattle.std.specs.Prelude.{ℕ, ◌≡◌, refl}
use Rattle.type1_to_type2.specs.Convert as Convert
use Rattle.type1_to_type2.specs.Convert.{Conversion, answer, output}
use Rattle.type1_to_type2.specs.FinishAnswer.{finished_answer, finished_output, written_by}

pub converted_output : (room : ℕ) (x : Conversion) → output room x ≡ finished_output room (written_by x)
converted_output room (Convert.refused n) = refl
converted_output room (Convert.converted g) = refl

pub converted_length : (x : Conversion) → (answer x).len ≡ (finished_answer (written_by x)).len
converted_length (Convert.refused n) = refl
converted_length (Convert.converted g) = refl

-- What a state of the form's reader answers, and what is answered where a slice is too short. Definitions only.
use Rattle.std.specs.Prelude.{ℕ}
use Rattle.base.specs.common.Pick.{pick}
use Rattle.base.specs.numbers.Numbers.{refused_room}
use Rattle.form.specs.step.Reader.{broken}
use Rattle.form.specs.declared.step.Reader.{Reader}
use Rattle.reader.specs.declared.answers.Answer.{Answer}
use Rattle.reader.specs.declared.answers.Report.{Report}

-- the byte of no refusal
abbrev pub nowhere : ℕ
nowhere = 18446744073709551615

abbrev pub no_refusal : Answer
no_refusal = record { number = 0; at = nowhere }

abbrev pub refused_at : Reader → Answer
refused_at r = record { number = r.refusal; at = r.at }

unfoldable pub answer_of : Reader → Answer
answer_of r = pick (broken r) (λ _. refused_at r) (λ _. no_refusal)

-- where no more comes: the counts too
abbrev pub sound_report : Reader → Report
sound_report r = record { number = 0; at = nowhere; clip = r.clip; sites = r.sites; triangles = r.triangles; hull = r.hull }

abbrev pub refused_report : Reader → Report
refused_report r = record { number = r.refusal; at = r.at; clip = 0; sites = 0; triangles = 0; hull = 0 }

unfoldable pub report_of : Reader → Report
report_of r = pick (broken r) (λ _. refused_report r) (λ _. sound_report r)

abbrev pub no_room : Answer
no_room = record { number = refused_room; at = nowhere }

abbrev pub no_report : Report
no_report = record { number = refused_room; at = nowhere; clip = 0; sites = 0; triangles = 0; hull = 0 }

use Rattle.std.proofs.Common.{arith, ap, length, sym, ◌∙◌, rules}
use Rattle.std.proofs.lemmas.Result.{err_from_is_err_and}
use Rattle.answers.specs.Lines.{hexadecimal_line}
use Rattle.lines.proofs.Lengths.{hexadecimal_length}
use Rattle.answer_text.proofs.Texts.{stretch_refused, stretch_given, stretch_short}
use Rattle.answer_text.proofs.entries.stretch.Goals as goal

pub returns-in_err-component_refusal : goal.returns-in_err-component_refusal
returns-in_err-component_refusal c =
    let p = err_from_is_err_and c.from_residual.result c.from_residual.ensures.1 in
    rw (p.1, p.2) (c.requires, sym (stretch_refused c.args.file.now c.args.c _ c.in_err-component_refusal.ensures.answer))

pub hexadecimal_line-requires : goal.hexadecimal_line-requires
hexadecimal_line-requires c =
    let bytes = c.component_bytes.result.now in
    omega (
      arith,
      ap length c.requires,
      hexadecimal_length bytes,
      stretch_short c.args.file.now c.args.c bytes c.component_bytes.ensures.answer,
    )

pub returns : goal.returns
returns c =
    search (
      rules,
      c.requires,
      ap hexadecimal_line c.component_bytes.ensures.answer
          ∙ sym (stretch_given c.args.file.now c.args.c c.in_ok-component_refusal.ensures.answer),
    )

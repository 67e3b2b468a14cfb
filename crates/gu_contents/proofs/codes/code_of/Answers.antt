use Rattle.std.proofs.Common.{ap, ◌∙◌}
use Rattle.gu_contents.specs.Codes.{code, content}
use Rattle.gu_contents.proofs.Coded.{gives_back, nothing_is}
use Rattle.gu_contents.proofs.codes.code_of.Goals as goal

pub returns-clause-back : goal.returns-clause-back
returns-clause-back c = ap (content c.args.l.now) c.coded.ensures.value ∙ gives_back c.args.l.now c.args.a c.coded.ensures.words c.requires.listed c.requires.shallow

pub returns-clause-nothing : goal.returns-clause-nothing
returns-clause-nothing c = λ e. c.coded.ensures.value ∙ (ap (code c.args.l.now) e ∙ nothing_is c.args.l.now)

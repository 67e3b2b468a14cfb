use Rattle.gu_contents.proofs.Common.{common_is, common_range, common_no_bottom}
use Rattle.gu_contents.proofs.facts.Facts.common.Goals as goal

pub returns-clause-value : goal.returns-clause-value
returns-clause-value c = common_is c.args.self.now.types c.args.self.now.hold c.args.a c.args.b c.requires.first c.requires.second c.requires.first_is_no_bottom c.least_common.result c.least_common.ensures

pub returns-clause-range : goal.returns-clause-range
returns-clause-range c = common_range c.args.self.now.types c.args.self.now.hold c.args.a c.args.b (record { is_heap = c.requires.first; no_bottom = c.requires.first_is_no_bottom }) c.least_common.result c.least_common.ensures

pub returns-clause-no_bottom : goal.returns-clause-no_bottom
returns-clause-no_bottom c = common_no_bottom c.args.self.now.types c.args.self.now.hold c.args.a c.args.b (record { is_heap = c.requires.first; no_bottom = c.requires.first_is_no_bottom }) c.least_common.result c.least_common.ensures

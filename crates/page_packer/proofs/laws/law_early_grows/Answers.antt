use Rattle.std.proofs.Common.{◌++◌}
use Rattle.page_packer.specs.Early.{early_of}
use Rattle.page_packer.proofs.Early.{list_grows, prefix_is}
use Rattle.page_packer.proofs.laws.law_early_grows.Goals as goal

pub returns : goal.returns
returns c es more p h = prefix_is (early_of es p) (early_of (es ++ more) p) (list_grows es more p h)

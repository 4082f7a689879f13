use Rattle.bti_nodes.proofs.Packed.{reads_8, reads_12, reads_16, reads_24, reads_32, reads_40}
use Rattle.bti_nodes.proofs.laws.law_packing.Goals as goal

pub returns : goal.returns
returns c = record { eight = reads_8; twelve = reads_12; sixteen = reads_16; twenty_four = reads_24; thirty_two = reads_32; forty = reads_40 }

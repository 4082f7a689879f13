use Rattle.key_types.specs.Columns.{columns_of}
use Rattle.script_text.proofs.Meaning.{answered}
use Rattle.script_text.proofs.reader.read_script.Goals as goal

pub returns-clause-meaning : goal.returns-clause-meaning
returns-clause-meaning c = answered (columns_of c.args.schema.now) c.args.readers c.args.bytes.now c.spell_script.result c.spell_script.ensures

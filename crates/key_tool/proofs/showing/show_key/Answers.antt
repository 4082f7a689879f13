use Rattle.key_tool.proofs.showing.show_key.Goals as goal

pub returns-in-Encode : goal.returns-in-Encode
returns-in-Encode c = rw c.in-Encode.is c.encode.ensures

pub returns-in-Decode : goal.returns-in-Decode
returns-in-Decode c = rw c.in-Decode.is c.decode.ensures

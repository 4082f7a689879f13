use Rattle.std.proofs.Common.{◌≡◌, ◌++◌, ℕ, List, take, drop, length, sym, ap, ◌∙◌}
use Rattle.key_types.proofs.Kept.{still}
use Rattle.std.proofs.lemmas.List.{take-append-drop}
use Rattle.key_types.specs.Literals.{hex_digits}
use Rattle.key_text.proofs.HexRuns.{pieces_behind}
use Rattle.key_text.proofs.writing.put_hex.Goals as goal

pub pieces-preserved : goal.pieces-preserved
pieces-preserved c =
    let parts : c.pieces.rest.now ≡ c.split_at.result.0.now ++ c.split_at.result.1.now = rw (c.split_at.ensures.front, c.split_at.ensures.back) (sym (take-append-drop _ c.pieces.rest.now)) in
    record {
      told = pieces_behind c.args.out.now c.pieces.out c.put_hex_piece.new.out c.args.bytes.now c.pieces.rest.now c.split_at.result.0.now c.split_at.result.1.now c.pieces.invariant.told parts c.in_ok-put_hex_piece.ensures.ok;
      kept = still c.args.out.now c.pieces.out c.put_hex_piece.new.out c.put_hex_piece.ensures.kept c.pieces.invariant.kept;
    }

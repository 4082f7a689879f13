use Rattle.std.proofs.Common.{◌≡◌, ℕ, Err, Result}
use Rattle.script_text.specs.declared.script.Script.{Script}
use Rattle.table_tool.specs.declared.status.Status.{Status}
use Rattle.table_tool.specs.declared.status.Status.TheVariants as status
use Rattle.table_tool.specs.Loading.{FillsShards, FitsShards, LoadsOrRefuses}
use Rattle.table_tool.specs.Request.{asked_of}
use Rattle.table_tool.proofs.LoadLemmas.{of_script, quiet}
use Rattle.table_tool.proofs.load.load_source.Goals as goal

pub returns-in-Err-clause-answers : goal.returns-in-Err-clause-answers
returns-in-Err-clause-answers g c =
    quiet (asked_of c.args.request) (g.S.Source.left c.args.source.now) (g.O.Sink.written c.args.out.now) c.in-Err.status c.in-Err.ensures.early

pub returns-clause-loads : goal.returns-clause-loads
returns-clause-loads g c =
    of_script (asked_of c.args.request) (g.S.Source.left c.args.source.now) c.in-Ok.script
    (λ (r : Result Script Status). LoadsOrRefuses (asked_of c.args.request) c.load_script.result r (g.K.Store.files c.args.store.now) (g.K.Store.files c.load_script.new.store))
    c.in-Ok.ensures.told c.load_script.ensures.loads

pub returns-clause-full : goal.returns-clause-full
returns-clause-full g c =
    of_script (asked_of c.args.request) (g.S.Source.left c.args.source.now) c.in-Ok.script
    (λ (r : Result Script Status). (line : ℕ) → c.load_script.result ≡ Err (status.Full line) → FillsShards (asked_of c.args.request) r line)
    c.in-Ok.ensures.told c.load_script.ensures.full

pub returns-clause-room : goal.returns-clause-room
returns-clause-room g c =
    of_script (asked_of c.args.request) (g.S.Source.left c.args.source.now) c.in-Ok.script
    (λ (r : Result Script Status). FitsShards (asked_of c.args.request) r → (line : ℕ) → c.load_script.result ≡ Err (status.Full line) → ⊥)
    c.in-Ok.ensures.told c.load_script.ensures.room

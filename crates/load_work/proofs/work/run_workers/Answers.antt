use Rattle.std.proofs.Common.{◌++◌, [], arith}
use Rattle.load_work.specs.Deal.{reads_from, jobs_of}
use Rattle.load_work.proofs.Taking.{can_run, all_left}
use Rattle.load_work.proofs.work.run_workers.Goals as goal

pub run_jobs-requires-clause-can : goal.run_jobs-requires-clause-can
run_jobs-requires-clause-can g c κs within = can_run c.args.table.now c.args.puts.now c.args.gets.now (jobs_of c.args.workers.now) _ _ c.in_ok-dealt.ensures

pub take_writers-requires : goal.take_writers-requires
take_writers-requires g c =
    let w = c.args.workers.now in (
      c.args.table.now,
      c.args.puts.now,
      c.args.gets.now,
      w.writers.items,
      reads_from 0 w.readers.items ++ [],
      omega (arith, w.writers.ok.0, c.len-shards.ensures),
      all_left c.args.table.now c.args.puts.now c.args.gets.now (jobs_of w) c.in_ok-dealt.dealt.jobs c.in_ok-done.done c.in_ok-dealt.dealt.places.items c.in_ok-dealt.ensures c.in_ok-done.ensures.len c.in_ok-done.ensures.each,
    )

pub take_readers-requires : goal.take_readers-requires
take_readers-requires g c =
    let w = c.args.workers.now in (
      c.args.table.now,
      c.args.puts.now,
      c.args.gets.now,
      w.readers.items,
      [],
      omega (arith, w.readers.ok.0, c.len-count.ensures),
      c.in_ok-writers.ensures.left c.args.table.now c.args.puts.now c.args.gets.now w.writers.items (reads_from 0 w.readers.items ++ []) (omega (arith, w.writers.ok.0, c.len-shards.ensures))
          (all_left c.args.table.now c.args.puts.now c.args.gets.now (jobs_of w) c.in_ok-dealt.dealt.jobs c.in_ok-done.done c.in_ok-dealt.dealt.places.items c.in_ok-dealt.ensures c.in_ok-done.ensures.len c.in_ok-done.ensures.each),
    )

pub returns-clause-written : goal.returns-clause-written
returns-clause-written g c =
    let w = c.args.workers.now in
    c.in_ok-writers.ensures.written c.args.table.now c.args.puts.now c.args.gets.now w.writers.items (reads_from 0 w.readers.items ++ []) (omega (arith, w.writers.ok.0, c.len-shards.ensures))
    (all_left c.args.table.now c.args.puts.now c.args.gets.now (jobs_of w) c.in_ok-dealt.dealt.jobs c.in_ok-done.done c.in_ok-dealt.dealt.places.items c.in_ok-dealt.ensures c.in_ok-done.ensures.len c.in_ok-done.ensures.each)

pub returns-clause-read : goal.returns-clause-read
returns-clause-read g c =
    let w = c.args.workers.now in
    c.in_ok-readers.ensures c.args.table.now c.args.puts.now c.args.gets.now w.readers.items [] (omega (arith, w.readers.ok.0, c.len-count.ensures))
    (c.in_ok-writers.ensures.left c.args.table.now c.args.puts.now c.args.gets.now w.writers.items (reads_from 0 w.readers.items ++ []) (omega (arith, w.writers.ok.0, c.len-shards.ensures))
    (all_left c.args.table.now c.args.puts.now c.args.gets.now (jobs_of w) c.in_ok-dealt.dealt.jobs c.in_ok-done.done c.in_ok-dealt.dealt.places.items c.in_ok-dealt.ensures c.in_ok-done.ensures.len c.in_ok-done.ensures.each))

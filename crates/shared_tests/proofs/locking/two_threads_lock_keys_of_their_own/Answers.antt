use Rattle.shared_tests.proofs.locking.two_threads_lock_keys_of_their_own.Goals as goal

pub lock_by_two-requires-after_bounds : goal.lock_by_two-requires-after_bounds
lock_by_two-requires-after_bounds g c κs = c.in-Some.ensures

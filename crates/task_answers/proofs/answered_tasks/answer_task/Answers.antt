use Rattle.task_answers.proofs.answered_tasks.answer_task.Goals as goal

pub returns-in-TellRun : goal.returns-in-TellRun
returns-in-TellRun g c = λ known. rw c.in-TellRun.is (c.tell_run.ensures known)

pub returns-in-MeasureAll : goal.returns-in-MeasureAll
returns-in-MeasureAll g c = λ known. rw c.in-MeasureAll.is (c.tell_many.ensures known)
